-- The copy is a source of the points that are asked for.
use Rattle.std.proofs.Common.{◌≡◌, ◌∙◌, sym, subst, false, []}
use Rattle.merge_cursor.specs.Overlays.{AreInOrder}
use Rattle.point_cache.specs.Cached.{AreAscending, points_at}
use Rattle.point_view.specs.Layers.{cached_rows}
use Rattle.point_view.proofs.LayerLemmas.{cached_source, layer_none, layer_ordered, no_rows, ordered_pushed, shown_none, shown_pushed}
use Rattle.point_view.proofs.memory.add_cached.Goals as goal

pub returns-then-is_empty-clause-shown : goal.returns-then-is_empty-clause-shown
returns-then-is_empty-clause-shown c =
    let need = c.args.need.now in
    let points = points_at c.args.cache.now.runs c.args.key.now in
    let none : points ≡ [] = sym c.rows_of.ensures.points ∙ no_rows c.rows_of.result.now (sym c.is_empty.ensures ∙ c.if-is_empty.true) in
    shown_none need.descending c.args.sources.now.items (cached_rows need c.args.cache.now c.args.key.now) (layer_none need (λ time. false) points none)

pub returns-clause-shown : goal.returns-clause-shown
returns-clause-shown c =
    let need = c.args.need.now in
    let points = points_at c.args.cache.now.runs c.args.key.now in
    let is = cached_source need points c.in_ok-rows.rows.items c.new.result.items c.len-end.result c.new-source.result c.new-source.ensures c.in_ok-rows.ensures (c.len-end.ensures ∙ c.in_ok-rows.rows.ok.0) c.new.ensures.items in
    shown_pushed need.descending c.args.sources.now.items c.push.new.self.items c.new-source.result (cached_rows need c.args.cache.now c.args.key.now) c.in_ok-push.ensures.items is

pub returns-clause-ordered : goal.returns-clause-ordered
returns-clause-ordered c =
    let need = c.args.need.now in
    let points = points_at c.args.cache.now.runs c.args.key.now in
    let is = cached_source need points c.in_ok-rows.rows.items c.new.result.items c.len-end.result c.new-source.result c.new-source.ensures c.in_ok-rows.ensures (c.len-end.ensures ∙ c.in_ok-rows.rows.ok.0) c.new.ensures.items in
    let ascend : AreAscending points = subst AreAscending c.rows_of.ensures.points c.rows_of.ensures.ascending in
    ordered_pushed need.descending c.args.sources.now.items c.push.new.self.items c.new-source.result c.in_ok-push.ensures.items c.requires
    (subst (AreInOrder need.descending) (sym is) (layer_ordered need ([], []) (λ time. false) points ascend))
