-- A key that has points is taken with its rows.
use Rattle.std.proofs.Common.{◌≡◌, ◌∙◌, ap, sym, refl, Bool, true, false, cond, List, [], ◌∷◌, ◌++◌, map, length, reverse, is_some, Vec, Global}
use Rattle.std.specs.Prelude.{◌==◌}
use Rattle.std.proofs.lemmas.Bool.{false≢true}
use Rattle.point_model.specs.declared.need.Need.{Need}
use Rattle.point_model.specs.Cursors.{Key}
use Rattle.point_model.specs.Rows.{Row}
use Rattle.point_cache.specs.declared.key_points.KeyRun.{KeyRun}
use Rattle.point_cache.specs.Cached.{points_at}
use Rattle.store_trait.specs.Lists.{lists_of}
use Rattle.store_trait.proofs.ListLemmas.{lists-push}
use Rattle.live_points.specs.Held.{composite, first_kind, kind_at}
use Rattle.live_points.specs.Listed.{having_points, rows_between, rows_taken}

some_kind : (rows : List Row) → (length rows == 0) ≡ false → is_some (first_kind rows) ≡ true
some_kind [] e = absurd (false≢true (sym e))
some_kind (row ∷ rows) e = refl

pub rows_pushed : (runs : List KeyRun) (need : Need) (key : Key) (found : List Row) (old new : List (Vec Row Global)) (rows : Vec Row Global)
    → found ≡ points_at runs (composite key) → (length found == 0) ≡ false → new ≡ old ++ rows ∷ [] → reverse rows.items ≡ rows_between runs need (composite key)
    → lists_of new ≡ lists_of old ++ map (rows_taken runs need) (having_points runs key)
rows_pushed runs need key found old new rows are some pushed taken =
    let has : is_some (kind_at runs key) ≡ true = some_kind (points_at runs (composite key)) (ap (λ (rs : List Row). length rs == 0) (sym are) ∙ some) in
    ap lists_of pushed ∙ lists-push old rows
    ∙ ap (λ (r : List Row). lists_of old ++ r ∷ []) taken
    ∙ sym (ap (λ (b : Bool). lists_of old ++ map (rows_taken runs need) (cond b (key ∷ []) [])) has)
