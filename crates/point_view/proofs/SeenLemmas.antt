-- What sources of a key give together.
use Rattle.std.proofs.Common.{◌≡◌, ◌∙◌, ap, ap₂, sym, refl, subst, ℤ, Bool, true, false, cond, List, [], ◌∷◌, ◌++◌, reverse, Option, Some, None, Less}
use Rattle.std.specs.List.{AllByRecursion}
use Rattle.std.specs.List.Sorted.{IsStrictlySortedBy}
use Rattle.std.specs.Map.{keys_of}
use Rattle.std.specs.Option.{option_or}
use Rattle.std.specs.Ordering.{int_eq}
use Rattle.std.proofs.lemmas.List.{reverse-append}
use Rattle.std.proofs.lemmas.List.Elements.{All-from_recursion}
use Rattle.std.specs.FinMap.Entries.{is_sorted-where_key, find-where_key}
use Rattle.std.specs.Prelude.{filter, not, ◌&&◌}
use Rattle.tsdb_types.specs.declared.point.Cell.{Cell}
use Rattle.tsdb_types.specs.declared.value.Value.{Value}
use Rattle.point_model.specs.declared.need.Need.{Need}
use Rattle.point_model.specs.Contents.{Content}
use Rattle.point_model.specs.Contents as contents
use Rattle.point_model.specs.Cursors.{Key, cell_at, in_order, rows_between, rows_needed}
use Rattle.point_model.specs.Points.{Points, cell_cmp, value_at}
use Rattle.point_model.specs.Rows.{Row}
use Rattle.point_model.proofs.EffectLemmas.{overlay-append}
use Rattle.merge_cursor.specs.Overlays.{AreInOrder, newest_value, overlay, time_cmp, value_of}
use Rattle.merge_cursor.proofs.OrderLemmas
use Rattle.merge_cursor.proofs.OrderLemmas.{time_exact, sorted_fact, value_is_found}
use Rattle.merge_cursor.proofs.OverlayLemmas.{is_overlay, one_overlay, same_rows}
use Rattle.merge_cursor.proofs.StepLemmas.{none_after, same_time}
use Rattle.merge_cursor.proofs.TurnLemmas.{overlay_turned}
use Rattle.point_model.proofs.PointLemmas.{sorted_test}
use Rattle.std.proofs.lemmas.Map.Keys.{sorted_head, sorted_tail}
use Rattle.point_view.specs.Laws.{ViewsSee}
use Rattle.point_view.specs.Seen.{AreRowsUnder, AreSourcesOf, is_asked}
use Rattle.point_view.proofs.BetweenLemmas.{find_between, sorted_between}

-- rows that are turned round
reverse_more : (row : Row) (rows : List Row) → reverse (row ∷ rows) ≡ reverse rows ++ row ∷ []
reverse_more row rows = reverse-append (row ∷ []) rows

or_or : (b : Bool) (v : Value) (o under : Option Value) → option_or (cond b (Some v) o) under ≡ cond b (Some v) (option_or o under)
or_or true v o under = refl
or_or false v o under = refl

value_append : (rows others : List Row) (time : ℤ) → value_of (rows ++ others) time ≡ option_or (value_of rows time) (value_of others time)
value_append [] others time = refl
value_append (row ∷ rows) others time =
    ap (λ (o : Option Value). cond (int_eq time row.0) (Some row.1) o) (value_append rows others time) ∙ sym (or_or (int_eq time row.0) row.1 (value_of rows time) (value_of others time))

last_or_first : (b : Bool) (v : Value) (o : Option Value) → (b ≡ true → o ≡ None) → option_or o (cond b (Some v) None) ≡ cond b (Some v) o
last_or_first true v o none = ap (λ (p : Option Value). option_or p (Some v)) (none refl)
last_or_first false v None none = refl
last_or_first false v (Some w) none = refl

-- rows in order have the same values when they are turned round
value_reverse : (rows : List Row) (time : ℤ) → AreInOrder false rows → value_of (reverse rows) time ≡ value_of rows time
value_reverse [] time order = refl
value_reverse (row ∷ rows) time order =
    ap (λ (l : List Row). value_of l time) (reverse_more row rows)
    ∙ value_append (reverse rows) (row ∷ []) time
    ∙ ap (λ (o : Option Value). option_or o (value_of (row ∷ []) time)) (value_reverse rows time (sorted_tail (time_cmp false) row.0 (keys_of rows) order))
    ∙ last_or_first (int_eq time row.0) row.1 (value_of rows time)
    (λ e. none_after false time rows (subst (λ (t : ℤ). AllByRecursion (λ (y : ℤ). time_cmp false t y ≡ Less) (keys_of rows)) (sym (same_time time row.0 e))
    (sorted_head (time_cmp false) row.0 (keys_of rows) order)))

one_source : (descending : Bool) (rows : List Row) → AreInOrder descending rows → rows ≡ overlay descending (rows ∷ [])
one_source descending rows ordered = one_overlay descending (rows ∷ []) rows (record { ordered = ordered; values = λ time. alone (value_of rows time) })
  where
    alone : (o : Option Value) → o ≡ option_or o None
    alone None = refl
    alone (Some value) = refl

order_reverse : (rows : List Row) → AreInOrder false rows → AreInOrder true (reverse rows)
order_reverse rows ordered =
    let is = is_overlay true (reverse rows ∷ []) in
    subst (AreInOrder true) (overlay_turned (rows ∷ []) (All-from_recursion (AreInOrder false) (rows ∷ []) (ordered, tt)) ∙ ap (λ (l : List Row). reverse l) (sym (one_source false rows ordered))) is.ordered

asked_or : (b : Bool) (a c : Option Value) → option_or (cond b a None) (cond b c None) ≡ cond b (option_or a c) None
asked_or true a c = refl
asked_or false a c = refl

nothing_asked : (b : Bool) → (let none : Option Value = None in none ≡ cond b None None)
nothing_asked true = refl
nothing_asked false = refl

-- the newest of the sources that has a time has what the contents show there
newest_shown : (need : Need) (key : Key) (newest : List Content) (sources : List (List Row)) → AreSourcesOf need key newest sources → (time : ℤ)
    → newest_value sources time ≡ cond (is_asked need time) (contents.overlay (reverse newest) (cell_at key time)) None
newest_shown need key [] [] are time = nothing_asked (is_asked need time)
newest_shown need key [] (rows ∷ sources) are time = absurd are
newest_shown need key (content ∷ older) [] are time = absurd are
newest_shown need key (content ∷ older) (rows ∷ sources) are time =
    ap₂ (λ (a b : Option Value). option_or a b) (let own = are.0 in own.values time) (newest_shown need key older sources are.1 time)
    ∙ asked_or (is_asked need time) (content (cell_at key time)) (contents.overlay (reverse older) (cell_at key time))
    ∙ ap (λ (o : Option Value). cond (is_asked need time) o None)
    (sym (ap (λ (cs : List Content). contents.overlay cs (cell_at key time)) (reverse-append (content ∷ []) older) ∙ overlay-append (reverse older) (content ∷ []) (cell_at key time)))

merged : (need : Need) (key : Key) (newest : List Content) (sources : List (List Row)) → AreSourcesOf need key newest sources
    → AreRowsUnder need key (contents.overlay (reverse newest)) (overlay need.descending sources)
merged need key newest sources are =
    let is = is_overlay need.descending sources in
    record { ordered = is.ordered; values = λ time. is.values time ∙ newest_shown need key newest sources are time }

one : (need : Need) (key : Key) (content : Content) (rows others : List Row) → AreRowsUnder need key content rows → AreRowsUnder need key content others → rows ≡ others
one need key content rows others first second =
    same_rows need.descending rows others first.ordered second.ordered (λ time. first.values time ∙ sym (second.values time))

-- rows that ascend, in the order that is asked for
in_asked_order : (descending : Bool) (rows : List Row) → AreInOrder false rows → AreInOrder descending (in_order descending rows)
in_asked_order false rows ordered = ordered
in_asked_order true rows ordered = order_reverse rows ordered

values_in_order : (descending : Bool) (rows : List Row) → AreInOrder false rows → (time : ℤ) → value_of (in_order descending rows) time ≡ value_of rows time
values_in_order false rows ordered time = refl
values_in_order true rows ordered time = value_reverse rows time ordered

hidden_or_not : (asked hidden : Bool) (o : Option Value) → cond (asked && not hidden) o None ≡ cond asked (cond hidden None o) None
hidden_or_not false hidden o = refl
hidden_or_not true true o = refl
hidden_or_not true false o = refl

-- the rows of a layer that are asked for and not hidden
layer : (need : Need) (key : Key) (content : Content) (hidden : ℤ → Bool) (rows : List Row) → AreInOrder false rows
    → ((time : ℤ) → content (cell_at key time) ≡ cond (hidden time) None (value_of rows time))
    → AreRowsUnder need key content (in_order need.descending (filter (λ (row : Row). is_asked need row.0 && not (hidden row.0)) rows))
layer need key content hidden rows ordered has =
    let test : ℤ → Bool = λ time. is_asked need time && not (hidden time) in
    let kept : List Row = filter (λ (row : Row). test row.0) rows in
    let ascend : AreInOrder false kept = sorted_fact (time_cmp false) kept (is_sorted-where_key (time_cmp false) test rows (OrderLemmas.sorted_test (time_cmp false) rows ordered)) in
    record {
      ordered = in_asked_order need.descending kept ascend;
      values = λ time.
          values_in_order need.descending kept ascend time
          ∙ sym (value_is_found false kept time)
          ∙ find-where_key (time_cmp false) test time (λ x tie. ap test (sym (time_exact false time x tie))) rows
          ∙ ap (λ (o : Option Value). cond (test time) o None) (value_is_found false rows time)
          ∙ hidden_or_not (is_asked need time) (hidden time) (value_of rows time)
          ∙ ap (λ (o : Option Value). cond (is_asked need time) o None) (sym (has time));
    }

points_rows : (need : Need) (key : Key) (points : Points) → IsStrictlySortedBy cell_cmp (keys_of points) → AreRowsUnder need key (value_at points) (rows_needed need points key)
points_rows need key points sorted =
    let rows = rows_between need.from need.to points key in
    let ascend : AreInOrder false rows = sorted_fact (time_cmp false) rows (sorted_between need.from need.to key points (sorted_test cell_cmp points sorted)) in
    record {
      ordered = in_asked_order need.descending rows ascend;
      values = λ time. values_in_order need.descending rows ascend time ∙ sym (value_is_found false rows time) ∙ find_between need.from need.to key time points;
    }

given : (need : Need) (key : Key) (points : Points) (newest : List Content) (sources : List (List Row)) → IsStrictlySortedBy cell_cmp (keys_of points)
    → ((cell : Cell) → contents.overlay (reverse newest) cell ≡ value_at points cell) → AreSourcesOf need key newest sources
    → overlay need.descending sources ≡ rows_needed need points key
given need key points newest sources sorted shows are =
    let seen = merged need key newest sources are in
    one need key (value_at points) (overlay need.descending sources) (rows_needed need points key)
    (record { ordered = seen.ordered; values = λ time. seen.values time ∙ ap (λ (o : Option Value). cond (is_asked need time) o None) (shows (cell_at key time)) })
    (points_rows need key points sorted)

pub views_see : ViewsSee
views_see = record { layer = layer; merged = merged; one = one; points = points_rows; given = given }
