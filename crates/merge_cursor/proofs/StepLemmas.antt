-- The overlay of sources, by the next row and what is left behind it.
use Rattle.std.proofs.Common.{◌≡◌, ◌≢◌, ℕ, zero, suc, ◌<◌, Bool, true, false, T, cond, List, [], ◌∷◌, ◌∙◌, ap, sym, subst, refl, Option, Some, None, Ordering, Less, Equal, Greater, slice_get, arith}
use Rattle.std.specs.Prelude.{◌↔◌, ℤ, IsNone, All}
use Rattle.std.specs.List.{AllByRecursion}
use Rattle.std.specs.Map.{keys_of}
use Rattle.std.specs.Option.{option_or}
use Rattle.std.specs.Ordering.{int_eq, is_eq, ordering_reverse}
use Rattle.std.specs.FinMap.Entries.{is_sorted, below_all}
use Rattle.std.proofs.lemmas.Bool.{false≢true}
use Rattle.std.proofs.lemmas.Cmp.{tied_itself}
use Rattle.std.proofs.lemmas.List.Elements.{All-map, All-weaker, All-from_recursion, recursion_from_All}
use Rattle.std.proofs.lemmas.Map.Keys.{sorted_head, sorted_tail}
use Rattle.std.proofs.lemmas.Map.Lookups.{exact_signed}
use Rattle.point_model.specs.Rows.{Row}
use Rattle.tsdb_types.specs.declared.value.Value.{Value}
use Rattle.merge_cursor.specs.Overlays.{time_cmp, AreInOrder, IsOverlay, value_of, newest_value, overlay}
use Rattle.merge_cursor.specs.Steps.{IsBefore, IsNext, heads_of, rows_behind, advanced}
use Rattle.merge_cursor.proofs.OrderLemmas.{time_total, time_exact, ties_alike, t_both, t_less, sorted_fact}
use Rattle.merge_cursor.proofs.OverlayLemmas.{is_overlay, one_overlay, sorted_overlay}

equal_times : (o : Ordering) → is_eq o ≡ true → o ≡ Equal
equal_times Less e = cc
equal_times Equal e = refl
equal_times Greater e = cc

pub same_time : (a b : ℤ) → int_eq a b ≡ true → a ≡ b
same_time a b e = exact_signed a b (equal_times (time_cmp false a b) e)

pub time_itself : (a : ℤ) → int_eq a a ≡ true
time_itself a = ap (λ (o : Ordering). is_eq o) (tied_itself (time_total false) a)

pub other_time : (a b : ℤ) → a ≢ b → int_eq a b ≡ false
other_time a b differ = elim (int_eq a b) as (λ t. int_eq a b ≡ t → t ≡ false) [ true ↦ λ e. absurd (differ (same_time a b e)) | false ↦ λ e. refl ] refl

-- the value at the time of the first row
pub value_first : (row : Row) (rows : List Row) → value_of (row ∷ rows) row.0 ≡ Some row.1
value_first row rows = ap (λ (b : Bool). cond b (Some row.1) (value_of rows row.0)) (time_itself row.0)

value_rest : (row : Row) (rows : List Row) (time : ℤ) → int_eq time row.0 ≡ false → value_of (row ∷ rows) time ≡ value_of rows time
value_rest row rows time e = ap (λ (b : Bool). cond b (Some row.1) (value_of rows time)) e

-- what holds of all times of rows holds of one with a value
among : (P : ℤ → Type 0) (rows : List Row) (time : ℤ) (value : Value) → AllByRecursion P (keys_of rows) → value_of rows time ≡ Some value → P time
among P [] time value all is = absurd (cc is)
among P (row ∷ rows) time value all is = elim (int_eq time row.0) as (λ t. int_eq time row.0 ≡ t → P time) [
  | true ↦ λ e. subst P (sym (same_time time row.0 e)) all.0
  | false ↦ λ e. among P rows time value all.1 (sym (value_rest row rows time e) ∙ is)
] refl

module _ (descending : Bool) where
  abbrev After : ℤ → List Row → Type 0
  After time rows = AllByRecursion (λ (t : ℤ). time_cmp descending time t ≡ Less) (keys_of rows)

  after_trans : (a b : ℤ) (rows : List Row) → IsBefore descending a b → After b rows → After a rows
  after_trans a b [] before all = tt
  after_trans a b (row ∷ rows) before all = ((let laws = time_total descending in laws.trans a b row.0 before all.0), after_trans a b rows before all.1)

  -- no value at a time before all
  pub none_after : (time : ℤ) (rows : List Row) → After time rows → value_of rows time ≡ None
  none_after time [] all = refl
  none_after time (row ∷ rows) all =
      value_rest row rows time (sym (ties_alike descending time row.0) ∙ ap (λ (o : Ordering). is_eq o) all.0) ∙ none_after time rows all.1

  -- a time that doesn't come before another and isn't it comes behind it
  behind : (a b : ℤ) → ¬ IsBefore descending a b → a ≢ b → IsBefore descending b a
  behind a b not differ =
      let laws = time_total descending in
      elim (time_cmp descending b a) as (λ o. time_cmp descending b a ≡ o → o ≡ Less) [
        | Less ↦ λ e. refl
        | Equal ↦ λ e. absurd (differ (sym (time_exact descending b a e)))
        | Greater ↦ λ e. absurd (not (laws.antisymm a b ∙ ap ordering_reverse e))
      ] refl

  -- rows in order, the first of which doesn't come before a time
  Stands : ℤ → List Row → Type 0
  Stands time rows = AreInOrder descending rows × ((row : Row) → slice_get rows 0 ≡ Some row → ¬ IsBefore descending row.0 time)

  -- what is left comes behind the time
  after_behind : (time : ℤ) (rows : List Row) → Stands time rows → After time (rows_behind time rows)
  unfolding Stands
  after_behind time [] stands = tt
  after_behind time (row ∷ rows) stands = elim (int_eq time row.0) as (λ t. int_eq time row.0 ≡ t → After time (cond t rows (row ∷ rows))) [
    | true ↦ λ e. subst (λ (t : ℤ). After t rows) (sym (same_time time row.0 e)) (sorted_head (time_cmp descending) row.0 (keys_of rows) stands.0)
    | false ↦ λ e. let before : IsBefore descending time row.0 = behind row.0 time (stands.1 row refl) (λ (same : row.0 ≡ time).
        false≢true (sym e ∙ subst (λ (t : ℤ). int_eq t row.0 ≡ true) same (time_itself row.0))) in
        (before, after_trans time row.0 rows before (sorted_head (time_cmp descending) row.0 (keys_of rows) stands.0))
  ] refl

  -- each source stands so, where no head comes before the time
  stand : (time : ℤ) (sources : List (List Row)) → AllByRecursion (AreInOrder descending) sources
      → ((other : ℕ) (row : Row) → slice_get (heads_of sources) other ≡ Some (Some row) → ¬ IsBefore descending row.0 time) → AllByRecursion (Stands time) sources
  unfolding Stands
  stand time [] order first = tt
  stand time (rows ∷ older) order first = ((order.0, λ row at. first 0 row (ap (λ (o : Option Row). Some o) at)), stand time older order.1 (λ other row at. first (suc other) row at))

  or_none : (o under : Option Value) → o ≡ None → option_or o under ≡ under
  or_none o under e = ap (λ (p : Option Value). option_or p under) e

  or_some : (o under : Option Value) (v : Value) → option_or o under ≡ Some v → (o ≡ Some v → ⊥) → under ≡ Some v
  or_some None under v is not = is
  or_some (Some w) under v is not = absurd (not is)

  newest_after : (time : ℤ) (sources : List (List Row)) (t : ℤ) (v : Value) → AllByRecursion (Stands time) sources → newest_value (advanced time sources) t ≡ Some v → IsBefore descending time t
  newest_after time [] t v stands is = absurd (cc is)
  newest_after time (rows ∷ older) t v stands is = elim (value_of (rows_behind time rows) t) as (λ o. value_of (rows_behind time rows) t ≡ o → IsBefore descending time t) [
    | None ↦ λ e. newest_after time older t v stands.1 (sym (or_none (value_of (rows_behind time rows) t) (newest_value (advanced time older) t) e) ∙ is)
    | Some w ↦ λ e. among (λ (x : ℤ). IsBefore descending time x) (rows_behind time rows) t w (after_behind time rows stands.0) e
  ] refl

  -- at another time the values are the same
  same_elsewhere : (time : ℤ) (rows : List Row) (t : ℤ) → t ≢ time → value_of (rows_behind time rows) t ≡ value_of rows t
  same_elsewhere time [] t differ = refl
  same_elsewhere time (row ∷ rows) t differ = elim (int_eq time row.0) as (λ b. int_eq time row.0 ≡ b → value_of (cond b rows (row ∷ rows)) t ≡ value_of (row ∷ rows) t) [
    | true ↦ λ e. sym (value_rest row rows t (other_time t row.0 (λ (same : t ≡ row.0). differ (same ∙ sym (same_time time row.0 e)))))
    | false ↦ λ e. refl
  ] refl

  newest_elsewhere : (time : ℤ) (sources : List (List Row)) (t : ℤ) → t ≢ time → newest_value (advanced time sources) t ≡ newest_value sources t
  newest_elsewhere time [] t differ = refl
  newest_elsewhere time (rows ∷ older) t differ =
      ap (λ (o : Option Value). option_or o (newest_value (advanced time older) t)) (same_elsewhere time rows t differ)
      ∙ ap (λ (o : Option Value). option_or (value_of rows t) o) (newest_elsewhere time older t differ)

  head_value : (time : ℤ) (value : Value) (rows : List Row) → slice_get rows 0 ≡ Some (time, value) → value_of rows time ≡ Some value
  head_value time value [] is = absurd (cc is)
  head_value time value (row ∷ rows) is =
      let same : row ≡ (time, value) = some_row row (time, value) is in
      subst (λ (r : Row). value_of (r ∷ rows) time ≡ Some value) (sym same) (value_first (time, value) rows)
    where
      some_row : (a b : Row) → Some a ≡ Some b → a ≡ b
      some_row a b e = cc e

  -- a source whose head isn't at the time has no value there
  none_in_newer : (time : ℤ) (rows : List Row) → Stands time rows → ((row : Row) → slice_get rows 0 ≡ Some row → row.0 ≢ time) → value_of rows time ≡ None
  unfolding Stands
  none_in_newer time [] stands differ = refl
  none_in_newer time (row ∷ rows) stands differ =
      let before : IsBefore descending time row.0 = behind row.0 time (stands.1 row refl) (differ row refl) in
      none_after time (row ∷ rows) (before, after_trans time row.0 rows before (sorted_head (time_cmp descending) row.0 (keys_of rows) stands.0))

  value_of_next : (time : ℤ) (value : Value) (sources : List (List Row)) (source : ℕ) → slice_get (heads_of sources) source ≡ Some (Some (time, value))
      → ((newer : ℕ) (row : Row) → newer < source → slice_get (heads_of sources) newer ≡ Some (Some row) → row.0 ≢ time) → AllByRecursion (Stands time) sources
      → newest_value sources time ≡ Some value
  value_of_next time value [] source is newest stands = absurd (cc is)
  value_of_next time value (rows ∷ older) zero is newest stands =
      ap (λ (o : Option Value). option_or o (newest_value older time)) (head_value time value rows (some_head (slice_get rows 0) (Some (time, value)) is))
    where
      some_head : (a b : Option Row) → Some a ≡ Some b → a ≡ b
      some_head a b e = cc e
  value_of_next time value (rows ∷ older) (suc source) is newest stands =
      or_none (value_of rows time) (newest_value older time) (none_in_newer time rows stands.0 (λ row at. newest 0 row (omega arith) (ap (λ (o : Option Row). Some o) at)))
      ∙ value_of_next time value older source is (λ newer row less at. newest (suc newer) row (omega arith) at) stands.1

  -- rows behind a time, by their values
  below_found : (x : ℤ) (rows : List Row) → ((t : ℤ) (v : Value) → value_of rows t ≡ Some v → IsBefore descending x t) → T (below_all (time_cmp descending) x rows)
  below_found x [] all = tt
  below_found x (row ∷ rows) all =
      t_both _ (below_all (time_cmp descending) x rows) (t_less (time_cmp descending x row.0) (all row.0 row.1 (value_first row rows)))
      (below_found x rows (λ t v is. elim (int_eq t row.0) as (λ b. int_eq t row.0 ≡ b → IsBefore descending x t) [
        | true ↦ λ e. subst (IsBefore descending x) (sym (same_time t row.0 e)) (all row.0 row.1 (value_first row rows))
        | false ↦ λ e. all t v (value_rest row rows t e ∙ is)
      ] refl))

  pub overlay_next : (sources : List (List Row)) (source : ℕ) (time : ℤ) (value : Value) → All (AreInOrder descending) sources
      → IsNext descending (heads_of sources) source time value → overlay descending sources ≡ (time, value) ∷ overlay descending (advanced time sources)
  overlay_next sources source time value order next =
      let R = time_cmp descending in
      let rest : List Row = overlay descending (advanced time sources) in
      let stands : AllByRecursion (Stands time) sources = stand time sources (recursion_from_All (AreInOrder descending) sources order) next.first in
      let own = is_overlay descending (advanced time sources) in
      let below : T (below_all R time rest) = below_found time rest (λ t v is. newest_after time sources t v stands (sym (own.values t) ∙ is)) in
      let is : IsOverlay descending sources ((time, value) ∷ rest) = record {
        ordered = sorted_fact R ((time, value) ∷ rest) (t_both (below_all R time rest) (is_sorted R rest) below (sorted_overlay descending (advanced time sources)));
        values = λ t. elim (int_eq t time) as (λ b. int_eq t time ≡ b → cond b (Some value) (value_of rest t) ≡ newest_value sources t) [
          | true ↦ λ e. sym (value_of_next time value sources source next.head next.newest stands) ∙ ap (λ (x : ℤ). newest_value sources x) (sym (same_time t time e))
          | false ↦ λ e. own.values t ∙ newest_elsewhere time sources t (λ (same : t ≡ time). false≢true (sym e ∙ subst (λ (x : ℤ). int_eq t x ≡ true) same (time_itself t)))
        ] refl;
      } in
      sym (one_overlay descending sources ((time, value) ∷ rest) is)

  rows_behind_in_order : (time : ℤ) (rows : List Row) → AreInOrder descending rows → AreInOrder descending (rows_behind time rows)
  rows_behind_in_order time [] order = order
  rows_behind_in_order time (row ∷ rows) order = elim (int_eq time row.0) as (λ b. AreInOrder descending (cond b rows (row ∷ rows))) [
    | true ↦ sorted_tail (time_cmp descending) row.0 (keys_of rows) order
    | false ↦ order
  ]

  pub advanced_in_order : (sources : List (List Row)) (time : ℤ) → All (AreInOrder descending) sources → All (AreInOrder descending) (advanced time sources)
  advanced_in_order sources time order =
      All-map (AreInOrder descending) (rows_behind time) sources (All-weaker (AreInOrder descending) (λ (rows : List Row). AreInOrder descending (rows_behind time rows)) (rows_behind_in_order time) sources order)

  -- ---- no row is left
  no_rows : (rows : List Row) → IsNone (slice_get rows 0) → rows ≡ []
  no_rows [] none = refl
  no_rows (row ∷ rows) none = absurd (cc none)

  empty_overlay : (sources : List (List Row)) → AllByRecursion IsNone (heads_of sources) → overlay descending sources ≡ []
  empty_overlay [] none = refl
  empty_overlay (rows ∷ older) none = subst (λ (l : List Row). overlay descending (l ∷ older) ≡ []) (sym (no_rows rows none.0)) (empty_overlay older none.1)

  or_left : (o under : Option Value) → option_or o under ≡ None → o ≡ None
  or_left None under e = refl
  or_left (Some v) under e = e

  or_right : (o under : Option Value) → option_or o under ≡ None → under ≡ None
  or_right None under e = e
  or_right (Some v) under e = absurd (cc e)

  no_head : (rows : List Row) → ((time : ℤ) → value_of rows time ≡ None) → IsNone (slice_get rows 0)
  no_head [] none = refl
  no_head (row ∷ rows) none = let apart : Some row.1 ≡ None = sym (value_first row rows) ∙ none row.0 in absurd (cc apart)

  no_heads : (sources : List (List Row)) → ((time : ℤ) → newest_value sources time ≡ None) → AllByRecursion IsNone (heads_of sources)
  no_heads [] none = tt
  no_heads (rows ∷ older) none = (
    no_head rows (λ time. or_left (value_of rows time) (newest_value older time) (none time)),
    no_heads older (λ time. or_right (value_of rows time) (newest_value older time) (none time)),
  )

  pub overlay_none : (sources : List (List Row)) → All IsNone (heads_of sources) ↔ (overlay descending sources ≡ [])
  overlay_none sources = (
    λ none. empty_overlay sources (recursion_from_All IsNone (heads_of sources) none),
    λ empty. All-from_recursion IsNone (heads_of sources) (no_heads sources (λ time.
        let own = is_overlay descending sources in sym (own.values time) ∙ ap (λ (rows : List Row). value_of rows time) empty)),
  )
