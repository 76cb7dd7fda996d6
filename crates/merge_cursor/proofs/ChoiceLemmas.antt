-- The first of the heads that were looked at so far.
use Rattle.std.proofs.Common.{◌≡◌, ◌≢◌, ℕ, ◌+◌, ◌<◌, Bool, List, length, get_or, ◌∙◌, ap, sym, subst, refl, Option, Some, None, Less, Equal, Greater, slice_get, arith, ⊎_elim}
use Rattle.std.specs.Prelude.{◌↔◌, ℤ, IsNone, All, IfSome}
use Rattle.std.proofs.lemmas.Bool.{cases_lt}
use Rattle.std.proofs.lemmas.Cmp.{tied_itself}
use Rattle.std.proofs.lemmas.Option.{slice_get-get_or, slice_get_cases, get_or_from_slice_get}
use Rattle.point_model.specs.Rows.{Row}
use Rattle.tsdb_types.specs.declared.value.Value.{Value}
use Rattle.merge_cursor.specs.Overlays.{time_cmp}
use Rattle.merge_cursor.specs.Choices.{Found, IsFirst}
use Rattle.merge_cursor.specs.Steps.{IsBefore, IsNext}
use Rattle.merge_cursor.proofs.OrderLemmas.{time_total}

-- the next row, by the first heads alone
pub record IsNextAmong (descending : Bool) (heads : List (Option Row)) (n source : ℕ) (time : ℤ) (value : Value) : Type 0 where
  pub within : source < n
  pub head : slice_get heads source ≡ Some (Some (time, value))
  pub first : (other : ℕ) (row : Row) → other < n → slice_get heads other ≡ Some (Some row) → ¬ IsBefore descending row.0 time
  pub newest : (newer : ℕ) (row : Row) → newer < source → slice_get heads newer ≡ Some (Some row) → row.0 ≢ time

abbrev pub HasFound : Bool → List (Option Row) → ℕ → Found → Type 0
HasFound descending heads n None = (k : ℕ) (row : Row) → k < n → slice_get heads k ≢ Some (Some row)
HasFound descending heads n (Some found) = IsNextAmong descending heads n found.0 found.1 found.2

same_head : (a b : Row) (o : Option (Option Row)) → o ≡ Some (Some a) → o ≡ Some (Some b) → a ≡ b
same_head a b o p q = cc

not_before_itself : (descending : Bool) (time : ℤ) → ¬ IsBefore descending time time
not_before_itself descending time before =
    let tied : time_cmp descending time time ≡ Equal = tied_itself (time_total descending) time in
    let apart : Less ≡ Equal = sym before ∙ tied in
    cc apart

before_trans : (descending : Bool) (a b c : ℤ) → IsBefore descending a b → IsBefore descending b c → IsBefore descending a c
before_trans descending a b c = let laws = time_total descending in laws.trans a b c

-- the cases of an index below i + 1
below_next : {P : Type 0} (k i : ℕ) → k < i + 1 → (k < i → P) → (k ≡ i → P) → P
below_next k i h before at = ⊎_elim before (λ ge. at (omega arith)) (cases_lt k i)

-- a head without a row changes nothing
found_stays : (descending : Bool) (heads : List (Option Row)) (i : ℕ) (found : Found) → HasFound descending heads i found → slice_get heads i ≡ Some None → HasFound descending heads (i + 1) found
found_stays descending heads i None so_far is = λ k row h at.
    below_next k i h (λ less. so_far k row less at)
    (λ e. let other : Some (Some row) ≡ Some None = sym at ∙ ap (λ (j : ℕ). slice_get heads j) e ∙ is in cc other)
found_stays descending heads i (Some found) so_far is = record {
  within = omega (arith, so_far.within);
  head = so_far.head;
  first = λ other row h at. below_next other i h (λ less. so_far.first other row less at)
      (λ e. let none : Some (Some row) ≡ Some None = sym at ∙ ap (λ (j : ℕ). slice_get heads j) e ∙ is in cc none);
  newest = so_far.newest;
}

-- the head at i, where it comes before what was found in newer sources
taken : (descending : Bool) (heads : List (Option Row)) (i : ℕ) (row : Row) → slice_get heads i ≡ Some (Some row)
    → ((other : ℕ) (head : Row) → other < i → slice_get heads other ≡ Some (Some head) → (IsBefore descending head.0 row.0 → ⊥) × (head.0 ≢ row.0))
    → IsNextAmong descending heads (i + 1) i row.0 row.1
taken descending heads i row is before = record {
  within = omega arith;
  head = is;
  first = λ other head h at. below_next other i h (λ less. let b = before other head less at in b.0)
      (λ e. let same : row ≡ head = same_head row head (slice_get heads i) is (ap (λ (j : ℕ). slice_get heads j) (sym e) ∙ at) in
      subst (λ (r : Row). ¬ IsBefore descending r.0 row.0) same (not_before_itself descending row.0));
  newest = λ newer head less at. let b = before newer head less at in b.1;
}

found_more : (descending : Bool) (heads : List (Option Row)) (i : ℕ) (found : Found) (row : Row) (result : Found) → HasFound descending heads i found → slice_get heads i ≡ Some (Some row)
    → IsFirst descending found i (Some row) result → HasFound descending heads (i + 1) result
found_more descending heads i None row result so_far is first =
    subst (HasFound descending heads (i + 1)) (sym first) (taken descending heads i row is (λ other head less at. absurd (so_far other head less at)))
found_more descending heads i (Some found) row result so_far is first =
    elim (time_cmp descending row.0 found.1) as (λ o. time_cmp descending row.0 found.1 ≡ o → HasFound descending heads (i + 1) result) [
      | Less ↦ λ before. subst (HasFound descending heads (i + 1)) (sym (first.0 before)) (taken descending heads i row is (λ other head less at. (
        λ earlier. so_far.first other head less at (before_trans descending head.0 row.0 found.1 earlier before),
        λ same. so_far.first other head less at (subst (λ (t : ℤ). IsBefore descending t found.1) (sym same) before),
      )))
      | Equal ↦ λ o. stays (λ before. let apart : Less ≡ Equal = sym before ∙ o in cc apart)
      | Greater ↦ λ o. stays (λ before. let apart = sym before ∙ o in cc apart)
    ] refl
  where
    stays : ¬ IsBefore descending row.0 found.1 → HasFound descending heads (i + 1) result
    stays not = subst (HasFound descending heads (i + 1)) (sym (first.1 not)) (record {
      within = omega (arith, so_far.within);
      head = so_far.head;
      first = λ other head h at. below_next other i h (λ less. so_far.first other head less at)
          (λ e. let same : row ≡ head = same_head row head (slice_get heads i) is (ap (λ (j : ℕ). slice_get heads j) (sym e) ∙ at) in
          subst (λ (r : Row). ¬ IsBefore descending r.0 found.1) same not);
      newest = so_far.newest;
    })

-- one head more
pub found_next : (descending : Bool) (heads : List (Option Row)) (i : ℕ) (found : Found) (head : Option Row) (result : Found) → HasFound descending heads i found → slice_get heads i ≡ Some head
    → IsFirst descending found i head result → HasFound descending heads (i + 1) result
found_next descending heads i found None result so_far is first = subst (HasFound descending heads (i + 1)) (sym first) (found_stays descending heads i found so_far is)
found_next descending heads i found (Some row) result so_far is first = found_more descending heads i found row result so_far is first

-- a place with a head lies within
within_heads : (heads : List (Option Row)) (k : ℕ) (head : Option Row) → slice_get heads k ≡ Some head → k < length heads
within_heads heads k head is =
    let cases = slice_get_cases heads k in
    ⊎_elim (λ some. some.1) (λ none. let apart : Some head ≡ None = sym is ∙ none.1 in cc apart) cases.1

-- behind the last head
pub found_all : (descending : Bool) (heads : List (Option Row)) (n : ℕ) (found : Found) → n ≡ length heads → HasFound descending heads n found → IfSome found (λ next. IsNext descending heads next.0 next.1 next.2)
found_all descending heads n None whole so_far = tt
found_all descending heads n (Some found) whole so_far = record {
  head = so_far.head;
  first = λ other row at. so_far.first other row (let h = within_heads heads other (Some row) at in omega (arith, h)) at;
  newest = so_far.newest;
}

none_in : (o : Option Row) → ((row : Row) → o ≢ Some row) → IsNone o
none_in None not = refl
none_in (Some row) not = absurd (not row refl)

not_none : (o : Option Row) (row : Row) → o ≡ Some row → ¬ IsNone o
not_none None row is = absurd (cc is)
not_none (Some _) row is = λ none. cc none

pub found_none : (descending : Bool) (heads : List (Option Row)) (n : ℕ) (found : Found) → n ≡ length heads → HasFound descending heads n found → IsNone found ↔ All IsNone heads
found_none descending heads n None whole so_far =
    (λ _ k d h. none_in (get_or heads k d) (λ row is. so_far k row (omega arith) (slice_get-get_or heads k d h ∙ ap (λ (o : Option Row). Some o) is)), λ _. refl)
found_none descending heads n (Some found) whole so_far = (
  λ none. absurd (cc none),
  λ all. absurd (not_none (get_or heads found.0 None) (found.1, found.2) (get_or_from_slice_get heads found.0 (Some (found.1, found.2)) None so_far.head)
      (all found.0 None (within_heads heads found.0 (Some (found.1, found.2)) so_far.head))),
)
