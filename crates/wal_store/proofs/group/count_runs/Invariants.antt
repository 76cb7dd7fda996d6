use Rattle.std.proofs.Common.{◌≡◌, ◌+◌, length}
use Rattle.wal_store.specs.Runs.{runs_of}
use Rattle.wal_store.proofs.group.count_runs.Given as goal

-- the runs before what is left are counted
abbrev pub invariant-loop-run : goal.invariant-loop-run
invariant-loop-run l = length (runs_of l.points) ≡ l.count + length (runs_of l.rest)

abbrev pub decreases-loop-run : goal.decreases-loop-run
decreases-loop-run l = length l.rest
