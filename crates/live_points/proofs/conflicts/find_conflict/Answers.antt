-- Each point is compared with the kind of its column.
use Rattle.std.proofs.Common.{◌≡◌, ◌∙◌, ap, sym, Option, Some, map, slice_get}
use Rattle.std.proofs.lemmas.Option.{get_or_from_slice_get, slice_get-get_or}
use Rattle.tsdb_types.specs.Columns.{column_of, columns_of}
use Rattle.tsdb_types.specs.Values.{kind_of}
use Rattle.tsdb_types.specs.declared.point.Point.{Point}
use Rattle.tsdb_types.specs.declared.value.Kind.{Kind}
use Rattle.live_points.specs.Known.{kind_of_column, unlike}
use Rattle.live_points.proofs.PlaceLemmas.{kind_at_place, no_conflict, some_conflict}
use Rattle.live_points.proofs.conflicts.find_conflict.Goals as goal

pub returns-in-Some : goal.returns-in-Some
returns-in-Some c =
    let runs = c.args.cache.now.runs in
    let samples = c.args.samples.now in
    let points = c.points-points.result.now in
    let item = c.index-points-i.result in
    let i = c.loop-i.i in
    let of = kind_of_column runs samples in
    let at : slice_get points i ≡ Some item = slice_get-get_or points i item c.loop-i-test.true ∙ ap Some (sym c.index-points-i.is) in
    let place = c.kind_of_point-held.ensures item at in
    let kinds : c.as_slice.result.now ≡ map of (columns_of points) =
    c.as_slice.ensures.value ∙ c.in_ok-kinds.ensures ∙ ap (λ cs. map of cs) (c.columns.ensures ∙ ap columns_of (sym c.points-points.ensures.points)) in
    let held = kind_at_place of (columns_of points) c.as_slice.result.now place.0 (column_of item) c.kind_of_point-held.result kinds place.1 place.2 in
    let other : c.differing.result ≡ unlike (kind_of item.value) (of (column_of item)) =
    c.differing.ensures ∙ ap (λ (kind : Kind). unlike kind c.kind_of_point-held.result) c.kind.ensures ∙ ap (λ (p : Point). unlike (kind_of p.value) c.kind_of_point-held.result) (sym c.index-points-i.is) ∙ ap (λ (o : Option Kind). unlike (kind_of item.value) o) held in
    some_conflict runs samples c.args.batch.now points i item c.differing.result c.in-Some.held c.in_ok-field.field c.points-points.ensures.points at other c.loop-i.invariant c.in-Some.is
    (c.in_ok-field.ensures ∙ ap (λ (p : Point). p.cell.field) (get_or_from_slice_get points i item c.index-points-i-in-Some.result at))

pub loop-i-preserved : goal.loop-i-preserved
loop-i-preserved c =
    let runs = c.args.cache.now.runs in
    let samples = c.args.samples.now in
    let points = c.points-points.result.now in
    let item = c.index-points-i.result in
    let i = c.loop-i.i in
    let of = kind_of_column runs samples in
    let at : slice_get points i ≡ Some item = slice_get-get_or points i item c.loop-i-test.true ∙ ap Some (sym c.index-points-i.is) in
    let place = c.kind_of_point-held.ensures item at in
    let kinds : c.as_slice.result.now ≡ map of (columns_of points) =
    c.as_slice.ensures.value ∙ c.in_ok-kinds.ensures ∙ ap (λ cs. map of cs) (c.columns.ensures ∙ ap columns_of (sym c.points-points.ensures.points)) in
    let held = kind_at_place of (columns_of points) c.as_slice.result.now place.0 (column_of item) c.kind_of_point-held.result kinds place.1 place.2 in
    let other : c.differing.result ≡ unlike (kind_of item.value) (of (column_of item)) =
    c.differing.ensures ∙ ap (λ (kind : Kind). unlike kind c.kind_of_point-held.result) c.kind.ensures ∙ ap (λ (p : Point). unlike (kind_of p.value) c.kind_of_point-held.result) (sym c.index-points-i.is) ∙ ap (λ (o : Option Kind). unlike (kind_of item.value) o) held in
    no_conflict runs samples c.args.batch.now points i item c.differing.result c.points-points.ensures.points at other c.loop-i.invariant c.in_default.not-Some
