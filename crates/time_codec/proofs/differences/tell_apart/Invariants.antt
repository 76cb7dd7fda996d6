use Rattle.std.proofs.Common.{◌≡◌, ◌++◌, ◌∷◌, length, take, drop}
use Rattle.time_codec.specs.Times.{differences}
use Rattle.time_codec.proofs.differences.tell_apart.Given as goal

-- the differences so far, and those of the time before and the rest
abbrev pub invariant-loop-k : goal.invariant-loop-k
invariant-loop-k l = record {
  size : length l.found ≡ length l.later;
  done : take l.k l.found ++ differences (l.before ∷ drop l.k l.later) ≡ differences (l.fn.first ∷ l.later);
}
