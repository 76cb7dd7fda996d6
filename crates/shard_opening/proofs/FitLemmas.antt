-- Columns that fit, and the room of a record.
use Rattle.std.proofs.Common.{◌≡◌, ◌⊎◌, ⊎_elim, inl, inr, ℕ, zero, suc, ◌+◌, ◌^◌, ◌<◌, ◌≤◌, Bool, true, false, not, List, [], ◌∷◌, length, filter, cond, refl, sym, subst, arith, Option, None, Some, is_some, slice_get, Result, Ok, Err}
use Rattle.std.specs.Prelude.{◌↔◌, IfNone, IfOk, Contains}
use Rattle.std.specs.List.{AllByRecursion}
use Rattle.std.specs.Str.{bytes_eq}
use Rattle.std.proofs.lemmas.Bool.{false≢true}
use Rattle.tsdb_types.specs.Columns.{column_of, columns_of, is_same_column}
use Rattle.tsdb_types.specs.Keys.{IsCutShort, IsFirstMark, IsTooLong, key_of}
use Rattle.tsdb_types.specs.declared.column.Column.{Column}
use Rattle.tsdb_types.specs.declared.key.KeyFault.{KeyFault}
use Rattle.tsdb_types.specs.declared.key.KeyFault.TheVariants as key_fault
use Rattle.tsdb_types.specs.declared.point.Point.{Point}
use Rattle.tsdb_types.proofs.ColumnLemmas.{same-equal}
use Rattle.point_model.specs.Acceptance.{IsKeyed}
use Rattle.point_model.specs.Sizes.{runs_length}
use Rattle.shard_state.specs.Meaning.{AreHeld}
use Rattle.shard_opening.specs.Columns.{IsFit, length_before}
use Rattle.indexmap.proofs.CallerLemmas.{Contains-list_any}
use Rattle.series_store.specs.Lists.{HasId}
use Rattle.series_store.proofs.ListLemmas.{there}
use Rattle.shard_steps.proofs.MemberLemmas.{by_case, one_text}

small_or_not : (n m : ℕ) → (n ≤ m) ⊎ (m < n)
small_or_not zero m = inl (omega arith)
small_or_not (suc n) zero = inr (omega arith)
small_or_not (suc n) (suc m) = ⊎_elim (λ a. inl (omega (arith, a))) (λ b. inr (omega (arith, b))) (small_or_not n m)

none_is : {X : Type 0} (x : X) → None ≡ Some x → ⊥
none_is x is = cc is

pub fits_none : (held : List (List ℕ)) (column : Column) (fault : Option KeyFault) → (is_some fault ≡ false)
    → IfNone fault (IsFirstMark (key_of column.series column.field) (length column.series))
    → ((len : ℕ) → (fault ≡ Some (key_fault.KeyTooLong len)) ↔ IsTooLong (key_of column.series column.field) len)
    → ((fault ≡ Some key_fault.Memory) ↔ (2 ^ 64 ≤ length (key_of column.series column.field)))
    → Contains held column.series → IsFit held column
fits_none held column (Some f) is none long memory held_there = absurd (false≢true (sym is))
fits_none held column None is none long memory held_there = record {
  is_held = held_there;
  fits = ⊎_elim (λ small. small) (λ above. absurd (⊎_elim
      (λ (huge : 2 ^ 64 ≤ length (key_of column.series column.field)). none_is _ (memory.1 huge))
      (λ (holds : length (key_of column.series column.field) < 2 ^ 64). none_is _ ((long (length (key_of column.series column.field))).1 (record { counted = refl; above = above; holds = holds })))
      (small_or_not (2 ^ 64) (length (key_of column.series column.field)))))
      (small_or_not (length (key_of column.series column.field)) 65535);
  marked = none;
}

pub unfit_some : (held : List (List ℕ)) (column : Column) (fault : Option KeyFault) → (is_some fault ≡ true)
    → ((len : ℕ) → (fault ≡ Some (key_fault.KeyTooLong len)) ↔ IsTooLong (key_of column.series column.field) len)
    → ((at : ℕ) → (fault ≡ Some (key_fault.MarkInKey at)) ↔ IsCutShort column.series column.field at)
    → ((fault ≡ Some key_fault.Memory) ↔ (2 ^ 64 ≤ length (key_of column.series column.field)))
    → IsFit held column → ⊥
unfit_some held column None is long mark memory fit = absurd (false≢true is)
unfit_some held column (Some (key_fault.KeyTooLong len)) is long mark memory fit = let it = (long len).0 refl in omega (arith, it.counted, it.above, fit.fits)
unfit_some held column (Some (key_fault.MarkInKey at)) is long mark memory fit = let it = (mark at).0 refl in fit.marked.first at it.within it.cut.stands
unfit_some held column (Some key_fault.Memory) is long mark memory fit = let huge = memory.0 refl in omega (arith, huge, fit.fits)

-- ---- from the columns to the points, and back

all_kept : (P : Column → Type 0) (first : Column) (columns : List Column) → P first → AllByRecursion P (filter (λ column. not (is_same_column first column)) columns) → AllByRecursion P columns
all_kept P first [] p all = tt
all_kept P first (column ∷ columns) p all = by_case (is_same_column first column)
    (λ same. (subst P (same-equal first column same) p, all_kept P first columns p (subst (λ (b : Bool). AllByRecursion P (cond (not b) (column ∷ rest) rest)) same all)))
    (λ other. let both = subst (λ (b : Bool). AllByRecursion P (cond (not b) (column ∷ rest) rest)) other all in (both.0, all_kept P first columns p both.1))
  where
    rest : List Column
    rest = filter (λ c. not (is_same_column first c)) columns

all_left : (P : Column → Type 0) (test : Column → Bool) (columns : List Column) → AllByRecursion P columns → AllByRecursion P (filter test columns)
all_left P test [] all = tt
all_left P test (column ∷ columns) all = by_case (test column)
    (λ passes. subst (λ (b : Bool). AllByRecursion P (cond b (column ∷ filter test columns) (filter test columns))) (sym passes) (all.0, all_left P test columns all.1))
    (λ fails. subst (λ (b : Bool). AllByRecursion P (cond b (column ∷ filter test columns) (filter test columns))) (sym fails) (all_left P test columns all.1))

pub of_columns : (P : Column → Type 0) (points : List Point) → AllByRecursion P (columns_of points) → AllByRecursion (λ (point : Point). P (column_of point)) points
of_columns P [] all = tt
of_columns P (point ∷ points) all = (all.0, of_columns P points (all_kept P (column_of point) (columns_of points) all.0 all.1))

pub of_points : (P : Column → Type 0) (points : List Point) → AllByRecursion (λ (point : Point). P (column_of point)) points → AllByRecursion P (columns_of points)
of_points P [] all = tt
of_points P (point ∷ points) all = (all.0, all_left P (λ column. not (is_same_column (column_of point) column)) (columns_of points) (of_points P points all.1))

pub held_of : (held : List (List ℕ)) (points : List Point) → AllByRecursion (λ (point : Point). IsFit held (column_of point)) points → AreHeld held points
held_of held [] all = tt
held_of held (point ∷ points) all = (all.0.is_held, held_of held points all.1)

pub keyed_of : (held : List (List ℕ)) (points : List Point) → AllByRecursion (λ (point : Point). IsFit held (column_of point)) points → AllByRecursion IsKeyed points
keyed_of held [] all = tt
keyed_of held (point ∷ points) all = (record { fits = all.0.fits; marked = all.0.marked }, keyed_of held points all.1)

pub fit_of : (held : List (List ℕ)) (points : List Point) → AreHeld held points → AllByRecursion IsKeyed points → AllByRecursion (λ (point : Point). IsFit held (column_of point)) points
fit_of held [] there keyed = tt
fit_of held (point ∷ points) there keyed = (record { is_held = there.0; fits = keyed.0.fits; marked = keyed.0.marked }, fit_of held points there.1 keyed.1)

-- ---- how long the runs are

pub one_longer : (point : Point) (points : List Point) → runs_length (point ∷ points) ≡ length_before point (slice_get points 0) + runs_length points
one_longer point [] = refl
one_longer point (next ∷ points) = refl

pub held_at : (held : List (List ℕ)) (series : List ℕ) (id : ℕ) → HasId held series id → Contains held series
held_at held series id has = Contains-list_any bytes_eq one_text held series (there held series id has)

pub if_ok_then : {T E : Type 0} {P Q : T → Type 0} (r : Result T E) → ((x : T) → P x → Q x) → IfOk r P → IfOk r Q
if_ok_then (Ok x) leads p = leads x p
if_ok_then (Err e) leads p = p
