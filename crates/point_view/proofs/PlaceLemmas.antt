-- The first and the last of the points between two places.
use Rattle.std.proofs.Common.{◌≡◌, ◌∙◌, ap, sym, ℕ, suc, ◌+◌, ◌<◌, ◌≤◌, Bool, true, false, List, [], ◌∷◌, ◌++◌, length, take, drop, get_or, reverse, subst, arith, drop-cons, add-one}
use Rattle.std.proofs.lemmas.Bool.{false≢true}
use Rattle.std.proofs.lemmas.List.{drop-append-le, get_or-take, length-take-le, reverse-append, take_more}
use Rattle.point_model.specs.Cursors.{in_order}
use Rattle.point_model.specs.Rows.{Row}

first_of : (ps : List Row) (first end : ℕ) (row : Row) → first < end → end ≤ length ps → row ≡ get_or ps first row → drop first (take end ps) ≡ row ∷ drop (suc first) (take end ps)
first_of ps first end row less within is =
    let len : length (take end ps) ≡ end = length-take-le end ps within in
    drop-cons (take end ps) first row (omega (arith, len)) ∙ ap (λ (r : Row). r ∷ drop (suc first) (take end ps)) (get_or-take end ps first row less ∙ sym is)

last_of : (ps : List Row) (first last : ℕ) (row : Row) → first ≤ last → last < length ps → row ≡ get_or ps last row → reverse (drop first (take (last + 1) ps)) ≡ row ∷ reverse (drop first (take last ps))
last_of ps first last row order within is =
    let len : length (take last ps) ≡ last = length-take-le last ps (omega arith) in
    ap (λ (l : List Row). reverse (drop first l)) (take_more ps last row within ∙ ap (λ (r : Row). take last ps ++ r ∷ []) (sym is))
    ∙ ap (λ (l : List Row). reverse l) (drop-append-le first (take last ps) (row ∷ []) (omega (arith, len)))
    ∙ reverse-append (drop first (take last ps)) (row ∷ [])

-- of points that ascend the first one is taken
pub ascending_taken : (descending : Bool) (ps : List Row) (first end : ℕ) (row : Row) → descending ≡ false → first < end → end ≤ length ps → row ≡ get_or ps first row
    → in_order descending (drop first (take end ps)) ≡ row ∷ in_order descending (drop (first + 1) (take end ps))
ascending_taken true ps first end row e less within is = absurd (false≢true (sym e))
ascending_taken false ps first end row e less within is = subst (λ (k : ℕ). drop first (take end ps) ≡ row ∷ drop k (take end ps)) (sym (add-one first)) (first_of ps first end row less within is)

-- of points that descend the last one is
pub descending_taken : (descending : Bool) (ps : List Row) (first last : ℕ) (row : Row) → descending ≡ true → first ≤ last → last < length ps → row ≡ get_or ps last row
    → in_order descending (drop first (take (last + 1) ps)) ≡ row ∷ in_order descending (drop first (take last ps))
descending_taken true ps first last row e order within is = last_of ps first last row order within is
descending_taken false ps first last row e order within is = absurd (false≢true e)
