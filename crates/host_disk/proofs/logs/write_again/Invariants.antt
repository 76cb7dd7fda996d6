-- The bytes that are left get fewer with each turn.
use Rattle.std.proofs.Common.{◌-◌}
use Rattle.host_disk.proofs.logs.write_again.Given as goal

abbrev pub decreases-loop-at : goal.decreases-loop-at
decreases-loop-at g l = l.size - l.at
