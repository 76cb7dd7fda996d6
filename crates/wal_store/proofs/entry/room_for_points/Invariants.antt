use Rattle.std.proofs.Common.{length}
use Rattle.wal_store.proofs.entry.room_for_points.Given as goal

abbrev pub decreases-loop-run : goal.decreases-loop-run
decreases-loop-run l = length l.rest
