use Rattle.std.proofs.Common.{◌≡◌}
use Rattle.tsdb_types.proofs.builder.BatchBuilder.of.Given as goal

-- the points so far are built
abbrev pub invariant-loop-point : goal.invariant-loop-point
invariant-loop-point l = l.built ≡ l.yielded
