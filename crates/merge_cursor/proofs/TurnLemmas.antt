-- The overlay of sources that are turned round.
use Rattle.std.proofs.Common.{◌≡◌, Bool, true, false, cond, List, [], ◌∷◌, ◌++◌, map, reverse, ◌∙◌, ap, sym, subst, refl, Option, Some, None, Less}
use Rattle.std.specs.Prelude.{ℤ, All}
use Rattle.std.specs.List.{AllByRecursion}
use Rattle.std.specs.Map.{keys_of}
use Rattle.std.specs.List.Sorted.{IsStrictlySortedBy}
use Rattle.std.specs.Option.{option_or}
use Rattle.std.specs.Ordering.{int_eq}
use Rattle.std.proofs.lemmas.List.{reverse-append}
use Rattle.std.proofs.lemmas.List.Elements.{recursion_from_All}
use Rattle.std.proofs.lemmas.Map.Keys.{sorted_head, sorted_tail}
use Rattle.point_model.specs.Rows.{Row}
use Rattle.tsdb_types.specs.declared.value.Value.{Value}
use Rattle.merge_cursor.specs.Overlays.{time_cmp, AreInOrder, IsOverlay, value_of, newest_value, overlay}
use Rattle.merge_cursor.proofs.OverlayLemmas.{is_overlay, one_overlay}
use Rattle.merge_cursor.proofs.StepLemmas.{none_after, same_time}

reverse_more : (row : Row) (rows : List Row) → reverse (row ∷ rows) ≡ reverse rows ++ row ∷ []
reverse_more row rows = reverse-append (row ∷ []) rows

or_or : (b : Bool) (v : Value) (o under : Option Value) → option_or (cond b (Some v) o) under ≡ cond b (Some v) (option_or o under)
or_or true v o under = refl
or_or false v o under = refl

value_append : (rows others : List Row) (time : ℤ) → value_of (rows ++ others) time ≡ option_or (value_of rows time) (value_of others time)
value_append [] others time = refl
value_append (row ∷ rows) others time =
    ap (λ (o : Option Value). cond (int_eq time row.0) (Some row.1) o) (value_append rows others time) ∙ sym (or_or (int_eq time row.0) row.1 (value_of rows time) (value_of others time))

last_or_first : (b : Bool) (v : Value) (o : Option Value) → (b ≡ true → o ≡ None) → option_or o (cond b (Some v) None) ≡ cond b (Some v) o
last_or_first true v o none = ap (λ (p : Option Value). option_or p (Some v)) (none refl)
last_or_first false v None none = refl
last_or_first false v (Some w) none = refl

-- rows in order have the same values when they are turned round
value_reverse : (rows : List Row) (time : ℤ) → AreInOrder false rows → value_of (reverse rows) time ≡ value_of rows time
value_reverse [] time order = refl
value_reverse (row ∷ rows) time order =
    ap (λ (l : List Row). value_of l time) (reverse_more row rows)
    ∙ value_append (reverse rows) (row ∷ []) time
    ∙ ap (λ (o : Option Value). option_or o (value_of (row ∷ []) time)) (value_reverse rows time (sorted_tail (time_cmp false) row.0 (keys_of rows) order))
    ∙ last_or_first (int_eq time row.0) row.1 (value_of rows time)
    (λ e. none_after false time rows (subst (λ (t : ℤ). AllByRecursion (λ (y : ℤ). time_cmp false t y ≡ Less) (keys_of rows)) (sym (same_time time row.0 e))
    (sorted_head (time_cmp false) row.0 (keys_of rows) order)))

all_more : (P : ℤ → Type 0) (rows : List Row) (row : Row) → AllByRecursion P (keys_of rows) → P row.0 → AllByRecursion P (keys_of (rows ++ row ∷ []))
all_more P [] row all one = (one, tt)
all_more P (first ∷ rows) row all one = (all.0, all_more P rows row all.1 one)

all_reverse : (P : ℤ → Type 0) (rows : List Row) → AllByRecursion P (keys_of rows) → AllByRecursion P (keys_of (reverse rows))
all_reverse P [] all = tt
all_reverse P (row ∷ rows) all = subst (λ (l : List Row). AllByRecursion P (keys_of l)) (sym (reverse_more row rows)) (all_more P (reverse rows) row (all_reverse P rows all.1) all.0)

-- a row more behind rows in order
order_more : (rows : List Row) (row : Row) → AreInOrder true rows → AllByRecursion (λ (t : ℤ). time_cmp true t row.0 ≡ Less) (keys_of rows) → AreInOrder true (rows ++ row ∷ [])
unfolding IsStrictlySortedBy
order_more [] row order before = (tt, tt)
order_more (first ∷ rows) row order before = (all_more (λ (t : ℤ). time_cmp true first.0 t ≡ Less) rows row order.0 before.0, order_more rows row order.1 before.1)

order_reverse : (rows : List Row) → AreInOrder false rows → AreInOrder true (reverse rows)
unfolding IsStrictlySortedBy
order_reverse [] order = order
order_reverse (row ∷ rows) order =
    subst (AreInOrder true) (sym (reverse_more row rows))
    (order_more (reverse rows) row (order_reverse rows (sorted_tail (time_cmp false) row.0 (keys_of rows) order))
    (all_reverse (λ (t : ℤ). time_cmp true t row.0 ≡ Less) rows (sorted_head (time_cmp false) row.0 (keys_of rows) order)))

newest_reverse : (sources : List (List Row)) (time : ℤ) → AllByRecursion (AreInOrder false) sources → newest_value (map reverse sources) time ≡ newest_value sources time
newest_reverse [] time order = refl
newest_reverse (rows ∷ older) time order =
    ap (λ (o : Option Value). option_or o (newest_value (map reverse older) time)) (value_reverse rows time order.0)
    ∙ ap (λ (o : Option Value). option_or (value_of rows time) o) (newest_reverse older time order.1)

pub overlay_turned : (sources : List (List Row)) → All (AreInOrder false) sources → overlay true (map reverse sources) ≡ reverse (overlay false sources)
overlay_turned sources order =
    let up = is_overlay false sources in
    let down : IsOverlay true (map reverse sources) (reverse (overlay false sources)) = record {
      ordered = order_reverse (overlay false sources) up.ordered;
      values = λ time. value_reverse (overlay false sources) time up.ordered ∙ up.values time ∙ sym (newest_reverse sources time (recursion_from_All (AreInOrder false) sources order));
    } in
    sym (one_overlay true (map reverse sources) (reverse (overlay false sources)) down)
