use Rattle.std.proofs.Common.{◌≡◌, ◌++◌, take}
use Rattle.std.specs.List.{flat_map, AllByRecursion}
use Rattle.wal_store.specs.Form.{point_bytes, IsPointOf}
use Rattle.wal_store.proofs.group.put_group.Given as goal

-- the points so far are put, and are points of the series
abbrev pub invariant-loop-point : goal.invariant-loop-point
invariant-loop-point l = record {
  put : l.out.items ≡ l.initial.out.items ++ flat_map point_bytes (take l.point-index l.points);
  are : AllByRecursion (IsPointOf l.series) (take l.point-index l.points);
}
