-- Rows in order, and the value at a time.
use Rattle.std.proofs.Common.{◌≡◌, Bool, true, false, T, cond, ◌&&◌, List, [], ◌∷◌, ◌∙◌, ap, sym, subst, refl, Option, Some, Ordering, Less, Equal, Greater}
use Rattle.std.specs.Prelude.{ℤ}
use Rattle.std.specs.Ordering.{int_eq, is_lt, eq_by_cmp}
use Rattle.std.specs.Cmp.{IsTotalOrder}
use Rattle.std.specs.Map.{keys_of}
use Rattle.std.specs.List.{AllByRecursion}
use Rattle.std.specs.List.Sorted.{IsStrictlySortedBy}
use Rattle.std.specs.FinMap.Entries.{find, is_sorted, below_all}
use Rattle.std.proofs.lemmas.Cmp.{int_cmp_total, int_eq_equiv, back_total}
use Rattle.std.proofs.lemmas.Map.Keys.{sorted_head, sorted_tail}
use Rattle.std.proofs.lemmas.Map.Lookups.{exact_signed}
use Rattle.point_model.specs.Rows.{Row}
use Rattle.tsdb_types.specs.declared.value.Value.{Value}
use Rattle.merge_cursor.specs.Overlays.{time_cmp, value_of}

pub time_total : (descending : Bool) → IsTotalOrder (time_cmp descending)
time_total false = int_cmp_total
time_total true = back_total int_cmp_total

-- only equal times tie
pub time_exact : (descending : Bool) (a b : ℤ) → time_cmp descending a b ≡ Equal → a ≡ b
time_exact false a b tie = exact_signed a b tie
time_exact true a b tie = sym (exact_signed b a tie)

-- in either order the same times tie
pub ties_alike : (descending : Bool) (a b : ℤ) → eq_by_cmp (time_cmp descending) a b ≡ int_eq a b
ties_alike false a b = refl
ties_alike true a b = let laws = int_eq_equiv in laws.symm b a

-- the value at a time, as it is found among entries
pub value_is_found : (descending : Bool) (rows : List Row) (time : ℤ) → find (time_cmp descending) time rows ≡ value_of rows time
value_is_found descending [] time = refl
value_is_found descending (row ∷ rows) time =
    ap (λ (b : Bool). cond b (Some row.1) (find (time_cmp descending) time rows)) (ties_alike descending time row.0)
    ∙ ap (λ (o : Option Value). cond (int_eq time row.0) (Some row.1) o) (value_is_found descending rows time)

pub t_both : (a b : Bool) → T a → T b → T (a && b)
t_both true b p q = q
t_both false b p q = p

pub t_first : (a b : Bool) → T (a && b) → T a
t_first true b p = tt
t_first false b p = p

pub t_second : (a b : Bool) → T (a && b) → T b
t_second true b p = p
t_second false b p = absurd p

pub t_less : (o : Ordering) → o ≡ Less → T (is_lt o)
t_less o e = subst (λ (r : Ordering). T (is_lt r)) (sym e) tt

pub less_t : (o : Ordering) → T (is_lt o) → o ≡ Less
less_t Less p = refl
less_t Equal p = absurd p
less_t Greater p = absurd p

-- between the order as a fact and as a test
module _ (R : ℤ → ℤ → Ordering) where
  below_test : (x : ℤ) (rows : List Row) → AllByRecursion (λ y. R x y ≡ Less) (keys_of rows) → T (below_all R x rows)
  below_test x [] all = tt
  below_test x (row ∷ rows) all = t_both (is_lt (R x row.0)) (below_all R x rows) (t_less (R x row.0) all.0) (below_test x rows all.1)

  pub below_fact : (x : ℤ) (rows : List Row) → T (below_all R x rows) → AllByRecursion (λ y. R x y ≡ Less) (keys_of rows)
  below_fact x [] all = tt
  below_fact x (row ∷ rows) all = (less_t (R x row.0) (t_first (is_lt (R x row.0)) (below_all R x rows) all), below_fact x rows (t_second (is_lt (R x row.0)) (below_all R x rows) all))

  pub sorted_test : (rows : List Row) → IsStrictlySortedBy R (keys_of rows) → T (is_sorted R rows)
  sorted_test [] s = tt
  sorted_test (row ∷ rows) s = t_both (below_all R row.0 rows) (is_sorted R rows) (below_test row.0 rows (sorted_head R row.0 (keys_of rows) s)) (sorted_test rows (sorted_tail R row.0 (keys_of rows) s))

  pub sorted_fact : (rows : List Row) → T (is_sorted R rows) → IsStrictlySortedBy R (keys_of rows)
  unfolding IsStrictlySortedBy
  sorted_fact [] s = tt
  sorted_fact (row ∷ rows) s = (below_fact row.0 rows (t_first (below_all R row.0 rows) (is_sorted R rows) s), sorted_fact rows (t_second (below_all R row.0 rows) (is_sorted R rows) s))
