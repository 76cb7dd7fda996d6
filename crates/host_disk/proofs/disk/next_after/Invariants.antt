-- The number is above those of the names so far.
use Rattle.std.proofs.Common.{All, take}
use Rattle.host_disk.specs.Numbers.{IsBelow}
use Rattle.host_disk.proofs.disk.next_after.Given as goal

abbrev pub invariant-loop-name : goal.invariant-loop-name
invariant-loop-name l = All (IsBelow l.next) (take l.name-index l.names)
