-- The points so far are before the time.
use Rattle.std.proofs.Common.{◌<ℤ◌, take}
use Rattle.std.specs.List.{AllByRecursion}
use Rattle.point_cache.proofs.merging.count_before.Given as goal

abbrev pub invariant-loop-i : goal.invariant-loop-i
invariant-loop-i l = AllByRecursion (λ row. row.0 <ℤ l.time) (take l.i l.points)
