use Rattle.std.proofs.Common.{take}
use Rattle.wal_store.specs.Taking.{AreOf}
use Rattle.wal_store.proofs.group.run_end.Given as goal

abbrev pub invariant-loop-at : goal.invariant-loop-at
invariant-loop-at l = AreOf l.series (take l.at l.points)
