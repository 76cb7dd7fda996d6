-- The first rows that were left of the key are taken.
use Rattle.std.proofs.Common.{◌≡◌, false}
use Rattle.shard_disk.specs.Health.{Ages}
use Rattle.point_model.specs.Cursors.{Told}
use Rattle.session_loop.specs.Merged.{TakesFront}
use Rattle.session_loop.proofs.select.take_key.Given as goal

abbrev pub invariant-loop : goal.invariant-loop
invariant-loop g l = record {
  usable : g.V.PointCursor.is_spent l.view ≡ false;
  keys : (g.V.PointCursor.shown l.view).keys ≡ (g.V.PointCursor.shown l.fn.view).keys;
  taken : Told (TakesFront l.key l.fn.found.items l.found.items) (g.V.PointCursor.shown l.fn.view).left (g.V.PointCursor.shown l.view).left;
  still : g.V.PointCursor.health l.view ≡ g.V.PointCursor.health l.fn.view;
  ages : Ages (g.V.PointCursor.health l.fn.view) (g.V.PointCursor.health l.view);
  can_be_damaged : g.V.PointCursor.can_be_damaged l.view ≡ g.V.PointCursor.can_be_damaged l.fn.view;
  loan : g.V.PointCursor.loan l.view ≡ g.V.PointCursor.loan l.fn.view;
}
