use Rattle.std.proofs.Common.{◌≡◌, ◌&&◌, ◌∷◌, eqb, drop}
use Rattle.std.specs.List.{list_all}
use Rattle.time_codec.specs.Times.{differences}
use Rattle.time_codec.proofs.differences.are_even.Given as goal

-- the differences so far, and those of the time before and the rest
abbrev pub invariant-loop-time : goal.invariant-loop-time
invariant-loop-time l = (l.even && list_all (λ other. eqb other l.difference) (differences (l.before ∷ drop l.time-index l.later))) ≡ list_all (λ other. eqb other l.difference) (differences (l.fn.first ∷ l.later))
