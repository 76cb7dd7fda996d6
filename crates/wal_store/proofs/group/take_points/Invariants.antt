use Rattle.std.proofs.Common.{◌≡◌, ◌++◌, List}
use Rattle.tsdb_types.specs.declared.point.Point.{Point}
use Rattle.wal_store.specs.Form.{point_bytes, IsPointOf}
use Rattle.wal_store.proofs.ListLemmas.{Took}
use Rattle.wal_store.proofs.group.take_points.Given as goal

-- so many points were taken
abbrev pub invariant-loop : goal.invariant-loop
invariant-loop l =
    (done : List Point) × (l.points.items ≡ l.initial.points.items ++ done) × Took Point point_bytes (IsPointOf l.series) l.bytes done l.rest l.counter
