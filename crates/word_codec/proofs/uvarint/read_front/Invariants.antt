use Rattle.word_codec.proofs.UvarintLemmas.{Begun}
use Rattle.word_codec.proofs.uvarint.read_front.Given as goal

abbrev pub invariant-loop-index : goal.invariant-loop-index
invariant-loop-index l = Begun l.bytes l.index l.low l.scale
