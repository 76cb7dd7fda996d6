-- Of the points so far the first at each time is appended.
use Rattle.std.proofs.Common.{◌≡◌, List, ◌++◌, take, drop, length}
use Rattle.point_model.specs.Rows.{Row}
use Rattle.point_cache.proofs.LatestLemmas.{Firsts}
use Rattle.point_cache.proofs.rows.append_firsts.Given as goal

abbrev pub invariant-loop-point : goal.invariant-loop-point
invariant-loop-point l = record {
  added : List Row;
  end : l.end ≡ length l.initial.points.items;
  appends : l.points.items ≡ l.initial.points.items ++ added;
  firsts : Firsts l.last (take l.point-index l.sorted) (drop l.point-index l.sorted) added;
}
