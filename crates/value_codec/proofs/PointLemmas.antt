-- Points, of which the times and the values are asked apart.
use Rattle.std.proofs.Common.{◌≡◌, ◌+◌, ◌++◌, ◌∷◌, [], ℕ, List, take, map, get_or, ◌<◌, length, sym, ◌∙◌, ap}
use Rattle.std.specs.Prelude.{ℤ}
use Rattle.std.proofs.lemmas.List.{map-append, take_more}
use Rattle.tsdb_types.specs.declared.value.Value.{Value}

pub times_push : (points new : List (ℤ × Value)) (time : ℤ) (value : Value) → new ≡ points ++ (time, value) ∷ [] → map (λ point. point.0) new ≡ map (λ point. point.0) points ++ time ∷ []
times_push points new time value pushed = ap (map (λ point. point.0)) pushed ∙ map-append (λ (point : ℤ × Value). point.0) points ((time, value) ∷ [])

pub values_push : (points new : List (ℤ × Value)) (time : ℤ) (value : Value) → new ≡ points ++ (time, value) ∷ [] → map (λ point. point.1) new ≡ map (λ point. point.1) points ++ value ∷ []
values_push points new time value pushed = ap (map (λ point. point.1)) pushed ∙ map-append (λ (point : ℤ × Value). point.1) points ((time, value) ∷ [])

-- one more of the times
pub times_more : (points new : List (ℤ × Value)) (times : List ℤ) (k : ℕ) (time : ℤ) (value : Value) → k < length times → time ≡ get_or times k time → new ≡ points ++ (time, value) ∷ []
    → map (λ point. point.0) points ≡ take k times → map (λ point. point.0) new ≡ take (k + 1) times
times_more points new times k time value below is pushed done =
    times_push points new time value pushed
    ∙ ap (λ ts. ts ++ time ∷ []) done
    ∙ ap (λ (t : ℤ). take k times ++ t ∷ []) is
    ∙ sym (take_more times k time below)
