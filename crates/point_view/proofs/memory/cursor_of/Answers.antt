-- The sources, put one behind the other, show what cache and snapshot show.
use Rattle.std.proofs.Common.{◌≡◌, ◌∙◌, List}
use Rattle.std.proofs.lemmas.Result.{IfOk-weaker}
use Rattle.point_model.specs.Rows.{Row}
use Rattle.merge_cursor.specs.Overlays.{overlay}
use Rattle.point_view.specs.Layers.{cached_rows, frozen_rows, memory_rows}
use Rattle.point_view.proofs.LayerLemmas.{both_shown}
use Rattle.point_view.proofs.memory.cursor_of.Goals as goal

pub returns : goal.returns
returns c =
    let need = c.args.need.now in
    let cached = c.args.cache.now in
    let key = c.args.key.now in
    let all = c.add_frozen.new.sources.items in
    let shown = both_shown need.descending c.new-sources.result.items c.add_cached.new.sources.items all (cached_rows need cached key) (frozen_rows need cached key) c.new-sources.ensures.items c.in_ok-add_cached.ensures.shown c.in_ok-add_frozen.ensures.shown in
    IfOk-weaker c.new.result (λ (cursor : List Row). cursor ≡ overlay need.descending all) (λ (cursor : List Row). cursor ≡ memory_rows need cached key) (λ cursor is. is ∙ shown) c.new.ensures
