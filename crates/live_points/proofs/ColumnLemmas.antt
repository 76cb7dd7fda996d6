-- Points and their columns, by their places.
use Rattle.std.proofs.Common.{◌≡◌, ◌∙◌, ap, refl, subst, ⊎_elim, ℕ, zero, suc, Bool, true, false, cond, not, List, [], ◌∷◌, filter, Some, slice_get}
use Rattle.std.specs.List.{AllByRecursion}
use Rattle.std.proofs.lemmas.Bool.{cases_Bool, cond-true}
use Rattle.tsdb_types.specs.Columns.{column_of, columns_of, is_same_column}
use Rattle.tsdb_types.specs.declared.column.Column.{Column}
use Rattle.tsdb_types.specs.declared.point.Point.{Point}
use Rattle.tsdb_types.proofs.ColumnLemmas.{same-equal}
use Rattle.point_model.proofs.StoredLemmas.{none_some, some_values}
use Rattle.live_points.specs.Learned.{IsAmong}

-- what a place holds of a filtered list stands somewhere in the list
from_filter : {X : Type 0} (keeps : X → Bool) (xs : List X) (place : ℕ) (x : X) → slice_get (filter keeps xs) place ≡ Some x → (at : ℕ) × (slice_get xs at ≡ Some x)
from_filter keeps [] place x e = absurd (none_some x e)
from_filter {X} keeps (first ∷ xs) place x e = by (keeps first) place e (λ p is. from_filter keeps xs p x is)
  where
    by : (b : Bool) (p : ℕ) → slice_get (cond b (first ∷ filter keeps xs) (filter keeps xs)) p ≡ Some x
        → ((q : ℕ) → slice_get (filter keeps xs) q ≡ Some x → (at : ℕ) × (slice_get xs at ≡ Some x))
        → (at : ℕ) × (slice_get (first ∷ xs) at ≡ Some x)
    by true zero is later = (zero, is)
    by true (suc p) is later = let r = later p is in (suc r.0, r.1)
    by false p is later = let r = later p is in (suc r.0, r.1)

-- and what is kept stands somewhere in the filtered list
into_filter : {X : Type 0} (keeps : X → Bool) (xs : List X) (at : ℕ) (x : X) → slice_get xs at ≡ Some x → keeps x ≡ true → (place : ℕ) × (slice_get (filter keeps xs) place ≡ Some x)
into_filter keeps [] at x e kept = absurd (none_some x e)
into_filter {X} keeps (first ∷ xs) zero x e kept =
    let same : first ≡ x = some_values first x e in
    (zero, ap (λ (ys : List X). slice_get ys zero) (cond-true (keeps first) (first ∷ filter keeps xs) (filter keeps xs) (ap keeps same ∙ kept)) ∙ e)
into_filter {X} keeps (first ∷ xs) (suc at) x e kept = by (keeps first) (into_filter keeps xs at x e kept)
  where
    by : (b : Bool) → ((place : ℕ) × (slice_get (filter keeps xs) place ≡ Some x)) → (place : ℕ) × (slice_get (cond b (first ∷ filter keeps xs) (filter keeps xs)) place ≡ Some x)
    by true r = (suc r.0, r.1)
    by false r = r

-- each column is that of a point
pub of_columns : (points : List Point) (place : ℕ) (column : Column) → slice_get (columns_of points) place ≡ Some column
    → (at : ℕ) × (point : Point) × (slice_get points at ≡ Some point) × (column_of point ≡ column)
of_columns [] place column e = absurd (none_some column e)
of_columns (point ∷ points) zero column e = (zero, point, refl, some_values (column_of point) column e)
of_columns (point ∷ points) (suc place) column e =
    let there = from_filter (λ (c : Column). not (is_same_column (column_of point) c)) (columns_of points) place column e in
    let r = of_columns points there.0 column there.1 in
    (suc r.0, r.1, r.2, r.3)

-- the column of each point is one of them
pub in_columns : (points : List Point) (at : ℕ) (point : Point) → slice_get points at ≡ Some point → IsAmong (columns_of points) (column_of point)
in_columns [] at point e = absurd (none_some point e)
in_columns (first ∷ points) zero point e = (zero, ap (λ (p : Point). Some (column_of p)) (some_values first point e))
in_columns (first ∷ points) (suc at) point e =
    ⊎_elim
    (λ (same : is_same_column (column_of first) (column_of point) ≡ true). (zero, ap Some (same-equal (column_of first) (column_of point) same)))
    (λ (differ : is_same_column (column_of first) (column_of point) ≡ false).
    let behind = in_columns points at point e in
    let r = into_filter (λ (c : Column). not (is_same_column (column_of first) c)) (columns_of points) behind.0 (column_of point) behind.1 (ap not differ) in
    (suc r.0, r.1))
    (cases_Bool (is_same_column (column_of first) (column_of point)))

pub all_places : {X : Type 0} (P : X → Type 0) (xs : List X) → ((place : ℕ) (x : X) → slice_get xs place ≡ Some x → P x) → AllByRecursion P xs
all_places P [] each = tt
all_places P (x ∷ xs) each = (each zero x refl, all_places P xs (λ place y e. each (suc place) y e))

pub place_of_all : {X : Type 0} (P : X → Type 0) (xs : List X) → AllByRecursion P xs → (place : ℕ) (x : X) → slice_get xs place ≡ Some x → P x
place_of_all P [] each place x e = absurd (none_some x e)
place_of_all P (y ∷ xs) each zero x e = subst P (some_values y x e) each.0
place_of_all P (y ∷ xs) each (suc place) x e = place_of_all P xs each.1 place x e
