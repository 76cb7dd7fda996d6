-- The engine is ready before each deletion.
use Rattle.shard_steps.specs.Shards.{IsReady}
use Rattle.engine_tests.proofs.deletions.delete_all.Given as goal

abbrev pub invariant-loop-range : goal.invariant-loop-range
invariant-loop-range g l = IsReady g.D.Disk l.shard
