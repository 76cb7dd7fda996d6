-- As many bytes as were asked for so far.
use Rattle.std.proofs.Common.{◌≡◌, length}
use Rattle.mem_disk.proofs.picks.Picks.bytes.Given as goal

abbrev pub invariant-loop : goal.invariant-loop
invariant-loop l = length l.bytes.items ≡ l.counter
