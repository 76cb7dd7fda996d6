-- The first conflict is that of the points that are left.
use Rattle.std.proofs.Common.{◌≡◌, drop}
use Rattle.store_trait.specs.Plain.{conflict_in}
use Rattle.store_trait.proofs.samples.find_conflict.Given as goal

abbrev pub invariant-loop-point : goal.invariant-loop-point
invariant-loop-point l = conflict_in l.slots l.samples l.points ≡ conflict_in l.slots l.samples (drop l.point-index l.points)
