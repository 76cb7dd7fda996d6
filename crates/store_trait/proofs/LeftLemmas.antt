-- The samples that are left are cells that a deletion spares, and each field with such a cell has one.
use Rattle.std.proofs.Common.{◌≡◌, ◌∙◌, ap, sym, refl, subst, inl, inr, ⊎_elim, ◌&&◌, ℕ, ℤ, Bool, true, false, not, cond, List, [], ◌∷◌, Option, Some, None, IsSome, is_some, option_map, option_and_then}
use Rattle.std.specs.BTreeMap.{get, is_at, IsOrdered}
use Rattle.std.specs.Cmp.{int_cmp_total, eq_by_cmp_equiv}
use Rattle.std.specs.Cmp.Lexicographic.{nat_list_cmp_total}
use Rattle.std.specs.Option.{option_or}
use Rattle.std.specs.Ordering.{int_cmp}
use Rattle.std.proofs.lemmas.Bool.{false≢true}
use Rattle.std.proofs.lemmas.Map.Lookups.{exact_bytes, exact_signed}
use Rattle.std.proofs.lemmas.Map.Views.{tells_apart}
use Rattle.tsdb_types.specs.Series.{is_series_of}
use Rattle.tsdb_types.specs.declared.point.Cell.{Cell}
use Rattle.tsdb_types.specs.declared.value.Value.{Value}
use Rattle.point_model.specs.declared.deletion.Deletion.{Deletion}
use Rattle.point_model.specs.Conditions.{meets}
use Rattle.point_model.specs.Deletions.{is_deleted}
use Rattle.store_trait.specs.Gathered.{AreOrderedRows}
use Rattle.store_trait.specs.Removals.{first_offered, is_within, is_kept, time_kept, cell_kept, series_kept, AreOrderedOf, IsSpared}
use Rattle.store_trait.specs.Slots.{Rows, Fields, Slots, slot_of, slot_in, slot_at, held, text_cmp}
use Rattle.store_trait.proofs.ConflictLemmas.{none_some, some_values}
use Rattle.store_trait.proofs.InLemmas.{In, found_in, in_found}
use Rattle.store_trait.proofs.KeyListLemmas.{ordered_rows}
use Rattle.store_trait.proofs.KindLemmas.{and_first, and_second, and_both}

-- what is offered first is offered by one of them
offered_by : {X Y : Type 0} (offer : X → Option Y) (xs : List X) (y : Y) → first_offered offer xs ≡ Some y → (x : X) × In x xs × (offer x ≡ Some y)
offered_by offer [] y e = absurd (none_some y e)
offered_by {X} {Y} offer (x ∷ xs) y e = by (offer x) refl e (λ h. offered_by offer xs y h)
  where
    by : (o : Option Y) → offer x ≡ o → option_or o (first_offered offer xs) ≡ Some y
        → (first_offered offer xs ≡ Some y → (z : X) × In z xs × (offer z ≡ Some y)) → (z : X) × In z (x ∷ xs) × (offer z ≡ Some y)
    by None is h behind = let later = behind h in (later.0, inr later.1, later.2)
    by (Some z) is h behind = (x, inl refl, is ∙ h)

-- where one of them offers, something is offered
offers : {X Y : Type 0} (offer : X → Option Y) (xs : List X) (x : X) → In x xs → IsSome (offer x) → IsSome (first_offered offer xs)
offers offer [] x m some = absurd m
offers {X} {Y} offer (first ∷ xs) x m some =
    ⊎_elim
    (λ (same : first ≡ x). here (offer first) (first_offered offer xs) (subst (λ (z : X). IsSome (offer z)) (sym same) some))
    (λ (later : In x xs). behind (offer first) (first_offered offer xs) (offers offer xs x later some))
    m
  where
    here : (one other : Option Y) → IsSome one → IsSome (option_or one other)
    here None other i = absurd (false≢true i)
    here (Some z) other i = refl

    behind : (one other : Option Y) → IsSome other → IsSome (option_or one other)
    behind None other i = i
    behind (Some z) other i = refl

kept_some : {X : Type 0} (b : Bool) (x y : X) → cond b (Some x) None ≡ Some y → (b ≡ true) × (x ≡ y)
kept_some true x y e = (refl, some_values x y e)
kept_some false x y e = absurd (none_some y e)

chosen : {X : Type 0} (b : Bool) (o : Option X) (y : X) → cond b o None ≡ Some y → (b ≡ true) × (o ≡ Some y)
chosen true o y e = (refl, e)
chosen false o y e = absurd (none_some y e)

some_chosen : {X : Type 0} (b : Bool) (o : Option X) → b ≡ true → IsSome o → IsSome (cond b o None)
some_chosen true o e i = i
some_chosen false o e i = absurd (false≢true e)

mapped : {X Y : Type 0} (f : X → Y) (o : Option X) (y : Y) → option_map f o ≡ Some y → (x : X) × (o ≡ Some x) × (f x ≡ y)
mapped f None y e = absurd (none_some y e)
mapped f (Some x) y e = (x, refl, some_values (f x) y e)

some_mapped : {X Y : Type 0} (f : X → Y) (o : Option X) → IsSome o → IsSome (option_map f o)
some_mapped f None i = i
some_mapped f (Some x) i = refl

not_true : (b : Bool) → not b ≡ true → b ≡ false
not_true true e = absurd (false≢true e)
not_true false e = refl

-- what is read of something is something
read_some : {X Y : Type 0} (read : X → Option Y) (o : Option X) → IsSome (option_and_then read o) → (x : X) × (o ≡ Some x) × IsSome (read x)
read_some read None i = absurd (false≢true i)
read_some read (Some x) i = (x, refl, i)

module _ (deletion : Deletion) where
  abbrev inside : ℤ → Bool
  inside time = is_within deletion.from deletion.to time

  -- ---- rows

  row_kept : (met : Bool) (rows : Rows) → IsOrdered int_cmp rows → (time : ℤ) → first_offered (time_kept deletion met) rows.entries ≡ Some time
      → IsSome (held (slot_of rows time)) × ((met && inside time) ≡ false)
  row_kept met rows sorted time e =
      let one = offered_by (time_kept deletion met) rows.entries time e in
      let row = one.0 in
      let kept = kept_some (is_kept deletion met row.0 row.1) row.0 time one.2 in
      let found : get int_cmp rows row.0 ≡ Some row.1 = in_found int_cmp_total exact_signed rows sorted row.0 row.1 one.1 in (
        subst (λ (t : ℤ). IsSome (held (slot_of rows t))) kept.1 (ap is_some (ap held found) ∙ and_first (is_some row.1) (not (met && inside row.0)) kept.0),
        subst (λ (t : ℤ). (met && inside t) ≡ false) kept.1 (not_true (met && inside row.0) (and_second (is_some row.1) (not (met && inside row.0)) kept.0)),
      )

  row_there : (met : Bool) (rows : Rows) → IsOrdered int_cmp rows → (time : ℤ) → IsSome (held (slot_of rows time)) → (met && inside time) ≡ false
      → IsSome (first_offered (time_kept deletion met) rows.entries)
  row_there met rows sorted time some spared =
      let at = read_some (λ (slot : Option Value). slot) (slot_of rows time) some in
      offers (time_kept deletion met) rows.entries (time, at.0) (found_in int_cmp_total exact_signed rows sorted time at.0 at.1)
      (some_chosen (is_kept deletion met time at.0) (Some time) (and_both (is_some at.0) (not (met && inside time)) at.2 (ap not spared)) refl)

  -- ---- columns of a series

  column_kept : (met : Bool) (series : List ℕ) (fields : Fields) → IsOrdered text_cmp fields → AreOrderedRows fields.entries → (field : List ℕ) (cell : Cell)
      → first_offered (cell_kept deletion met series field) fields.entries ≡ Some cell
      → (cell.series ≡ series) × (cell.field ≡ field) × IsSome (held (slot_in fields field cell.time)) × ((met && inside cell.time) ≡ false)
  column_kept met series fields sorted all field cell e =
      let one = offered_by (cell_kept deletion met series field) fields.entries cell e in
      let column = one.0 in
      let own = chosen (is_at (text_cmp column.0) field) (option_map (made column.0) (first_offered (time_kept deletion met) column.1.entries)) cell one.2 in
      let time = mapped (made column.0) (first_offered (time_kept deletion met) column.1.entries) cell own.1 in
      let same : column.0 ≡ field = tells_apart exact_bytes column.0 field own.0 in
      let row = row_kept met column.1 (ordered_rows fields.entries all column.0 column.1 one.1) time.0 time.1 in
      let found : get text_cmp fields field ≡ Some column.1 = ap (get text_cmp fields) (sym same) ∙ in_found nat_list_cmp_total exact_bytes fields sorted column.0 column.1 one.1 in (
        ap (λ (c : Cell). c.series) (sym time.2),
        ap (λ (c : Cell). c.field) (sym time.2) ∙ same,
        subst (λ (t : ℤ). IsSome (held (slot_in fields field t))) (ap (λ (c : Cell). c.time) time.2)
            (subst (λ (o : Option Rows). IsSome (held (option_and_then (λ (rows : Rows). slot_of rows time.0) o))) (sym found) row.0),
        subst (λ (t : ℤ). (met && inside t) ≡ false) (ap (λ (c : Cell). c.time) time.2) row.1,
      )
    where
      made : List ℕ → ℤ → Cell
      made name time = record { time = time; series = series; field = name }

  column_there : (met : Bool) (series : List ℕ) (fields : Fields) → IsOrdered text_cmp fields → AreOrderedRows fields.entries → (field : List ℕ) (time : ℤ)
      → IsSome (held (slot_in fields field time)) → (met && inside time) ≡ false → IsSome (first_offered (cell_kept deletion met series field) fields.entries)
  column_there met series fields sorted all field time some spared =
      let slot = read_some (λ (s : Option Value). s) (slot_in fields field time) some in
      let column = read_some (λ (rows : Rows). slot_of rows time) (get text_cmp fields field) (ap is_some slot.1) in
      let there = found_in nat_list_cmp_total exact_bytes fields sorted field column.0 column.1 in
      let some_row : IsSome (held (slot_of column.0 time)) = subst (λ (o : Option Rows). IsSome (held (option_and_then (λ (rows : Rows). slot_of rows time) o))) column.1 some in
      offers (cell_kept deletion met series field) fields.entries (field, column.0) there
      (some_chosen (is_at (text_cmp field) field) (option_map made (first_offered (time_kept deletion met) column.0.entries))
      (let laws = eq_by_cmp_equiv nat_list_cmp_total in laws.refl field)
      (some_mapped made (first_offered (time_kept deletion met) column.0.entries)
      (row_there met column.0 (ordered_rows fields.entries all field column.0 there) time some_row spared)))
    where
      made : ℤ → Cell
      made t = record { time = t; series = series; field = field }

  -- ---- series

  ordered_of : (entries : List (List ℕ × Fields)) → AreOrderedOf deletion entries → (series : List ℕ) (fields : Fields) → In (series, fields) entries
      → is_series_of deletion.measurement series ≡ true → IsOrdered text_cmp fields × AreOrderedRows fields.entries
  ordered_of [] all series fields m of = absurd m
  ordered_of (entry ∷ entries) all series fields m of =
      ⊎_elim
      (λ (e : entry ≡ (series, fields)).
      subst (λ (p : List ℕ × Fields). IsOrdered text_cmp p.1 × AreOrderedRows p.1.entries) e
      (all.0 (ap (λ (p : List ℕ × Fields). is_series_of deletion.measurement p.0) e ∙ of)))
      (λ (later : In (series, fields) entries). ordered_of entries all.1 series fields later of)
      m

  -- of a series of the measurement the deletion takes what it meets between the times
  deleted_of : (cell : Cell) → is_series_of deletion.measurement cell.series ≡ true → is_deleted deletion cell ≡ (meets deletion.tags cell.series && inside cell.time)
  deleted_of cell of = ap (λ (b : Bool). (b && meets deletion.tags cell.series) && inside cell.time) of

  module _ (slots : Slots) (sorted : IsOrdered text_cmp slots) (all : AreOrderedOf deletion slots.entries) where
    pub left_placed : (field : List ℕ) (cell : Cell) → first_offered (series_kept deletion field) slots.entries ≡ Some cell
        → (is_series_of deletion.measurement cell.series ≡ true) × (cell.field ≡ field) × IsSpared deletion slots cell
    left_placed field cell e =
        let one = offered_by (series_kept deletion field) slots.entries cell e in
        let entry = one.0 in
        let met = meets deletion.tags entry.0 in
        let own = chosen (is_series_of deletion.measurement entry.0) (first_offered (cell_kept deletion met entry.0 field) entry.1.entries) cell one.2 in
        let order = ordered_of slots.entries all entry.0 entry.1 one.1 own.0 in
        let kept = column_kept met entry.0 entry.1 order.0 order.1 field cell own.1 in
        let of : is_series_of deletion.measurement cell.series ≡ true = ap (is_series_of deletion.measurement) kept.0 ∙ own.0 in
        let found : get text_cmp slots cell.series ≡ Some entry.1 = ap (get text_cmp slots) kept.0 ∙ in_found nat_list_cmp_total exact_bytes slots sorted entry.0 entry.1 one.1 in (
          of,
          kept.1,
          (
            subst (λ (o : Option Fields). IsSome (held (option_and_then (λ (fields : Fields). slot_in fields cell.field cell.time) o))) (sym found)
                (subst (λ (f : List ℕ). IsSome (held (slot_in entry.1 f cell.time))) (sym kept.1) kept.2),
            deleted_of cell of ∙ ap (λ (s : List ℕ). meets deletion.tags s && inside cell.time) kept.0 ∙ kept.3,
          ),
        )

    pub left_there : (cell : Cell) → IsSpared deletion slots cell → is_series_of deletion.measurement cell.series ≡ true
        → IsSome (first_offered (series_kept deletion cell.field) slots.entries)
    left_there cell spared of =
        let slot = read_some (λ (s : Option Value). s) (slot_at slots cell) spared.0 in
        let series = read_some (λ (fields : Fields). slot_in fields cell.field cell.time) (get text_cmp slots cell.series) (ap is_some slot.1) in
        let there = found_in nat_list_cmp_total exact_bytes slots sorted cell.series series.0 series.1 in
        let order = ordered_of slots.entries all cell.series series.0 there of in
        let met = meets deletion.tags cell.series in
        let some : IsSome (held (slot_in series.0 cell.field cell.time)) =
        subst (λ (o : Option Fields). IsSome (held (option_and_then (λ (fields : Fields). slot_in fields cell.field cell.time) o))) series.1 spared.0 in
        offers (series_kept deletion cell.field) slots.entries (cell.series, series.0) there
        (some_chosen (is_series_of deletion.measurement cell.series) (first_offered (cell_kept deletion met cell.series cell.field) series.0.entries) of
        (column_there met cell.series series.0 order.0 order.1 cell.field cell.time some (sym (deleted_of cell of) ∙ spared.1)))
