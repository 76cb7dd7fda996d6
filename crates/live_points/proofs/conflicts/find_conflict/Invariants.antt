-- The first conflict is that of the points that are left.
use Rattle.std.proofs.Common.{◌≡◌, drop}
use Rattle.live_points.specs.Known.{conflict_in}
use Rattle.live_points.proofs.conflicts.find_conflict.Given as goal

abbrev pub invariant-loop-i : goal.invariant-loop-i
invariant-loop-i l = conflict_in l.cache.runs l.samples l.batch ≡ conflict_in l.cache.runs l.samples (drop l.i l.batch)
