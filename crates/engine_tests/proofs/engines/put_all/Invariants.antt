-- The engine is ready before each line.
use Rattle.shard_steps.specs.Shards.{IsReady}
use Rattle.engine_tests.proofs.engines.put_all.Given as goal

abbrev pub invariant-loop-line : goal.invariant-loop-line
invariant-loop-line g l = IsReady g.D.Disk l.shard
