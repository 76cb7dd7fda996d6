use Rattle.value_codec.proofs.Begun.{Begun}
use Rattle.value_codec.proofs.bits.read_part.Given as goal

abbrev pub invariant-loop-at : goal.invariant-loop-at
invariant-loop-at l = Begun l.byte l.rest l.weight l.at l.initial.values.items l.values.items
