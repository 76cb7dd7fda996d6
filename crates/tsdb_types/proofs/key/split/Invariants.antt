use Rattle.std.proofs.Common.{ℕ, ◌<◌}
use Rattle.tsdb_types.specs.Keys.{MarkAt}
use Rattle.tsdb_types.proofs.key.split.Given as goal

abbrev pub invariant-loop-at : goal.invariant-loop-at
invariant-loop-at l = (before : ℕ) → before < l.at → ¬ MarkAt l.bytes before
