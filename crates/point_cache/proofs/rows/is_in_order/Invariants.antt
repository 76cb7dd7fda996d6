-- The points so far go on in order, none behind the last time.
use Rattle.std.proofs.Common.{◌++◌, take}
use Rattle.point_cache.specs.Cached.{AreAscending}
use Rattle.point_cache.proofs.OrderLemmas.{EndsBy}
use Rattle.point_cache.proofs.rows.is_in_order.Given as goal

abbrev pub invariant-loop-point : goal.invariant-loop-point
invariant-loop-point l = record {
  ascending : AreAscending (l.front ++ take l.point-index l.points);
  ends : EndsBy l.last (l.front ++ take l.point-index l.points);
}
