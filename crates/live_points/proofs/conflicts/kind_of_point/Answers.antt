-- The place of a point is that of its column.
use Rattle.std.proofs.Common.{◌<◌, subst, sym, None, slice_index_or}
use Rattle.std.proofs.lemmas.Option.{slice_get_within, slice_get-get_or}
use Rattle.tsdb_types.specs.Columns.{column_of, columns_of}
use Rattle.live_points.proofs.PlaceLemmas.{place_is, point_at}
use Rattle.live_points.proofs.conflicts.kind_of_point.Goals as goal

pub bounds-kinds-places : goal.bounds-kinds-places
bounds-kinds-places c =
    let there = point_at c.args.points.now c.args.i c.requires.within in
    subst (λ n. slice_index_or c.args.places.now c.args.i 0 < n) (sym c.requires.kinds)
    (slice_get_within (columns_of c.args.points.now) (slice_index_or c.args.places.now c.args.i 0) (column_of there.0)
    (place_is (columns_of c.args.points.now) c.args.points.now c.args.places.now c.requires.places c.args.i there.0 there.1))

pub returns : goal.returns
returns c = λ point at.
    let place = slice_index_or c.args.places.now c.args.i 0 in
    let is = place_is (columns_of c.args.points.now) c.args.points.now c.args.places.now c.requires.places c.args.i point at in
    (place, is, slice_get-get_or c.args.kinds.now place None (subst (λ n. place < n) (sym c.requires.kinds) (slice_get_within (columns_of c.args.points.now) place (column_of point) is)))
