-- What an overlay holds, and that it is one.
use Rattle.std.proofs.Common.{◌≡◌, Bool, true, false, T, cond, List, [], ◌∷◌, map, ◌∙◌, ap, sym, refl, Option, Some, None}
use Rattle.std.specs.Prelude.{ℤ}
use Rattle.std.specs.List.{filter}
use Rattle.std.specs.Option.{option_or}
use Rattle.std.specs.Ordering.{int_eq}
use Rattle.std.specs.FinMap.Entries.{find, is_sorted, is_sorted-put, find-put, is_sorted-where_key, find-where_key, same_entries}
use Rattle.point_model.specs.Rows.{Row}
use Rattle.tsdb_types.specs.declared.value.Value.{Value}
use Rattle.merge_cursor.specs.Overlays.{time_cmp, AreInOrder, IsOverlay, value_of, newest_value, with_rows, overlay}
use Rattle.merge_cursor.proofs.OrderLemmas.{time_total, time_exact, value_is_found, sorted_test, sorted_fact, ties_alike}

sorted_with_rows : (descending : Bool) (rows under : List Row) → T (is_sorted (time_cmp descending) under) → T (is_sorted (time_cmp descending) (with_rows descending rows under))
sorted_with_rows descending [] under s = s
sorted_with_rows descending (row ∷ rows) under s =
    is_sorted-put (time_cmp descending) (time_total descending) row.0 row.1 (with_rows descending rows under) (sorted_with_rows descending rows under s)

pub sorted_overlay : (descending : Bool) (sources : List (List Row)) → T (is_sorted (time_cmp descending) (overlay descending sources))
sorted_overlay descending [] = tt
sorted_overlay descending (rows ∷ older) = sorted_with_rows descending rows (overlay descending older) (sorted_overlay descending older)

-- the value of one row more
or_first : (b : Bool) (v : Value) (o under : Option Value) → cond b (Some v) (option_or o under) ≡ option_or (cond b (Some v) o) under
or_first true v o under = refl
or_first false v o under = refl

value_with_rows : (descending : Bool) (rows under : List Row) (time : ℤ) → find (time_cmp descending) time (with_rows descending rows under) ≡ option_or (value_of rows time) (find (time_cmp descending) time under)
value_with_rows descending [] under time = refl
value_with_rows descending (row ∷ rows) under time =
    let R = time_cmp descending in
    find-put R (time_total descending) time row.0 row.1 (with_rows descending rows under)
    ∙ ap (λ (b : Bool). cond b (Some row.1) (find (time_cmp descending) time (with_rows descending rows under))) (ties_alike descending time row.0)
    ∙ ap (λ (o : Option Value). cond (int_eq time row.0) (Some row.1) o) (value_with_rows descending rows under time)
    ∙ or_first (int_eq time row.0) row.1 (value_of rows time) (find (time_cmp descending) time under)

pub value_in_overlay : (descending : Bool) (sources : List (List Row)) (time : ℤ) → find (time_cmp descending) time (overlay descending sources) ≡ newest_value sources time
value_in_overlay descending [] time = refl
value_in_overlay descending (rows ∷ older) time =
    value_with_rows descending rows (overlay descending older) time ∙ ap (λ (o : Option Value). option_or (value_of rows time) o) (value_in_overlay descending older time)

pub is_overlay : (descending : Bool) (sources : List (List Row)) → IsOverlay descending sources (overlay descending sources)
is_overlay descending sources = record {
  ordered = sorted_fact (time_cmp descending) (overlay descending sources) (sorted_overlay descending sources);
  values = λ time. sym (value_is_found descending (overlay descending sources) time) ∙ value_in_overlay descending sources time;
}

-- rows in order are told by their values
pub same_rows : (descending : Bool) (rows others : List Row) → AreInOrder descending rows → AreInOrder descending others → ((time : ℤ) → value_of rows time ≡ value_of others time) → rows ≡ others
same_rows descending rows others s t same =
    let R = time_cmp descending in
    same_entries R (time_total descending) (time_exact descending) rows others (sorted_test R rows s) (sorted_test R others t)
    (λ q. value_is_found descending rows q ∙ same q ∙ sym (value_is_found descending others q))

pub one_overlay : (descending : Bool) (sources : List (List Row)) (rows : List Row) → IsOverlay descending sources rows → rows ≡ overlay descending sources
one_overlay descending sources rows is =
    let own = is_overlay descending sources in
    same_rows descending rows (overlay descending sources) is.ordered own.ordered (λ time. is.values time ∙ sym (own.values time))

abbrev pub tested : (ℤ → Bool) → List Row → List Row
tested test rows = filter (λ (row : Row). test row.0) rows

value_tested : (test : ℤ → Bool) (rows : List Row) (time : ℤ) → value_of (tested test rows) time ≡ cond (test time) (value_of rows time) None
value_tested test rows time =
    sym (value_is_found false (tested test rows) time)
    ∙ find-where_key (time_cmp false) test time (λ x tie. ap test (sym (time_exact false time x tie))) rows
    ∙ ap (λ (o : Option Value). cond (test time) o None) (value_is_found false rows time)

or_tested : (b : Bool) (o under : Option Value) → option_or (cond b o None) (cond b under None) ≡ cond b (option_or o under) None
or_tested true o under = refl
or_tested false o under = refl

same_either_way : (b : Bool) (o : Option Value) → o ≡ cond b o o
same_either_way true o = refl
same_either_way false o = refl

newest_tested : (test : ℤ → Bool) (sources : List (List Row)) (time : ℤ) → newest_value (map (tested test) sources) time ≡ cond (test time) (newest_value sources time) None
newest_tested test [] time = same_either_way (test time) None
newest_tested test (rows ∷ older) time =
    ap (λ (o : Option Value). option_or o (newest_value (map (tested test) older) time)) (value_tested test rows time)
    ∙ ap (λ (o : Option Value). option_or (cond (test time) (value_of rows time) None) o) (newest_tested test older time)
    ∙ or_tested (test time) (value_of rows time) (newest_value older time)

-- a test of times lets the same rows of the overlay through
pub overlay_tested : (descending : Bool) (sources : List (List Row)) (test : ℤ → Bool) → overlay descending (map (tested test) sources) ≡ tested test (overlay descending sources)
overlay_tested descending sources test =
    let R = time_cmp descending in
    let all : List Row = overlay descending sources in
    let is : IsOverlay descending (map (tested test) sources) (tested test all) = record {
      ordered = sorted_fact R (tested test all) (is_sorted-where_key R test all (sorted_overlay descending sources));
      values = λ time. value_tested test all time ∙ ap (λ (o : Option Value). cond (test time) o None) (let own = is_overlay descending sources in own.values time)
          ∙ sym (newest_tested test sources time);
    } in
    sym (one_overlay descending (map (tested test) sources) (tested test all) is)
