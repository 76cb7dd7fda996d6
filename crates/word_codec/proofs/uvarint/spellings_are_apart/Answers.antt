use Rattle.word_codec.proofs.UvarintLemmas.{apart}
use Rattle.word_codec.proofs.uvarint.spellings_are_apart.Goals as goal

pub returns : goal.returns
returns c = λ first second rest other same. apart first second rest other same
