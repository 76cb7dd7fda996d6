-- The rows of the keys before this one are taken, and those from this one on are to be taken.
use Rattle.std.proofs.Common.{◌≡◌, false, List, Some}
use Rattle.shard_disk.specs.Health.{Ages}
use Rattle.point_model.specs.Rows.{Row}
use Rattle.session_loop.specs.Merged.{AreToTake}
use Rattle.session_loop.proofs.select.take_rows.Given as goal

abbrev pub invariant-loop-key : goal.invariant-loop-key
invariant-loop-key g l = record {
  usable : g.V.PointCursor.is_spent l.view ≡ false;
  keys : (g.V.PointCursor.shown l.view).keys ≡ (g.V.PointCursor.shown l.fn.view).keys;
  to_take : (left : List (List Row)) → (g.V.PointCursor.shown l.fn.view).left ≡ Some left
      → (rest : List (List Row)) × ((g.V.PointCursor.shown l.view).left ≡ Some rest)
      × AreToTake l.field (g.V.PointCursor.shown l.fn.view).keys l.fn.found.items left l.key l.found.items rest;
  still : g.V.PointCursor.health l.view ≡ g.V.PointCursor.health l.fn.view;
  ages : Ages (g.V.PointCursor.health l.fn.view) (g.V.PointCursor.health l.view);
  can_be_damaged : g.V.PointCursor.can_be_damaged l.view ≡ g.V.PointCursor.can_be_damaged l.fn.view;
  loan : g.V.PointCursor.loan l.view ≡ g.V.PointCursor.loan l.fn.view;
}
