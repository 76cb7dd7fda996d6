-- What the cursors give is what the need asks of the points that cache and snapshot show.
use Rattle.std.proofs.Common.{◌≡◌, ◌∙◌, ap, List, map, Some}
use Rattle.point_model.specs.Cursors.{Key}
use Rattle.point_model.specs.Rows.{Row}
use Rattle.point_view.specs.Layers.{key_rows}
use Rattle.point_view.proofs.LayerLemmas.{all_given}
use Rattle.point_view.proofs.view.View.new.Goals as goal

pub returns-clause-given : goal.returns-clause-given
returns-clause-given c = λ points sorted shows.
    let need = c.args.need.now in
    let cached = c.args.cache.now in
    let keys = c.args.keys.items in
    let made : c.in_ok-cursors.cursors.items ≡ map (key_rows need cached) keys = c.in_ok-cursors.ensures ∙ ap (λ (ks : List Key). map (key_rows need cached) ks) c.as_slice.ensures.value in
    ap (λ (rs : List (List Row)). Some rs) (made ∙ all_given need cached points keys sorted shows c.look_at.ensures.cached c.look_at.ensures.frozen)

pub returns-clause-rows : goal.returns-clause-rows
returns-clause-rows c =
    let need = c.args.need.now in
    let cached = c.args.cache.now in
    ap (λ (rs : List (List Row)). Some rs) (c.in_ok-cursors.ensures ∙ ap (λ (ks : List Key). map (key_rows need cached) ks) c.as_slice.ensures.value)
