-- Overlays of some of the sources.
use Rattle.std.proofs.Common.{◌≡◌, Bool, List, [], ◌∷◌, ◌++◌, ◌∙◌, ap, sym, refl, Option, Some, None}
use Rattle.std.specs.Prelude.{ℤ}
use Rattle.std.specs.Option.{option_or}
use Rattle.point_model.specs.Rows.{Row}
use Rattle.tsdb_types.specs.declared.value.Value.{Value}
use Rattle.merge_cursor.specs.Overlays.{IsOverlay, value_of, newest_value, overlay}
use Rattle.merge_cursor.specs.Laws.{OverlaysNest}
use Rattle.merge_cursor.proofs.OverlayLemmas.{is_overlay, one_overlay}

or_then : (first second third : Option Value) → option_or first (option_or second third) ≡ option_or (option_or first second) third
or_then None second third = refl
or_then (Some value) second third = refl

pub newest-append : (newer older : List (List Row)) (time : ℤ) → newest_value (newer ++ older) time ≡ option_or (newest_value newer time) (newest_value older time)
newest-append [] older time = refl
newest-append (rows ∷ newer) older time =
    ap (λ (o : Option Value). option_or (value_of rows time) o) (newest-append newer older time) ∙ or_then (value_of rows time) (newest_value newer time) (newest_value older time)

pub overlay_value : (descending : Bool) (sources : List (List Row)) (time : ℤ) → value_of (overlay descending sources) time ≡ newest_value sources time
overlay_value descending sources time = let own = is_overlay descending sources in own.values time

nested_value : (descending : Bool) (newer some older : List (List Row)) (time : ℤ)
    → newest_value (newer ++ (some ++ older)) time ≡ newest_value (newer ++ (overlay descending some ∷ older)) time
nested_value descending newer some older time =
    newest-append newer (some ++ older) time
    ∙ ap (λ (o : Option Value). option_or (newest_value newer time) o)
    (newest-append some older time ∙ ap (λ (o : Option Value). option_or o (newest_value older time)) (sym (overlay_value descending some time)))
    ∙ sym (newest-append newer (overlay descending some ∷ older) time)

pub overlay_nests : OverlaysNest
overlay_nests descending newer some older =
    let all = is_overlay descending (newer ++ (some ++ older)) in
    one_overlay descending (newer ++ (overlay descending some ∷ older)) (overlay descending (newer ++ (some ++ older)))
    (record { ordered = all.ordered; values = λ time. all.values time ∙ nested_value descending newer some older time })
