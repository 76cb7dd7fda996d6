-- No reader is out between two cases.
use Rattle.std.proofs.Common.{◌≡◌, ℕ}
use Rattle.disk_tests.proofs.cases.first_unmet.Given as goal

abbrev pub invariant-loop-case : goal.invariant-loop-case
invariant-loop-case g l = (n : ℕ) → (g.D.Disk.handed_out l.disk).readers n ≡ 0
