-- Steps at places, one after another.
use Rattle.std.proofs.Common.{◌≡◌, ℕ, zero, suc, ◌+◌, ◌<◌, ◌≤◌, Bool, true, false, cond, nat_eq, List, [], ◌∷◌, length, take, get_or, Some, None, slice_get, ◌⊎◌, inl, inr, refl, sym, ap, ◌∙◌, subst, ⊎_elim, arith}
use Rattle.std.specs.List.{count_by}
use Rattle.std.specs.Map.{values_of}
use Rattle.std.proofs.lemmas.Bool.{cases_Bool}
use Rattle.std.proofs.lemmas.Bool.Decides.{nat_tests}
use Rattle.std.proofs.lemmas.List.{take_all}
use Rattle.std.proofs.lemmas.List.Sums.{count_by_more_no, count_by_more_yes, sum_by-cons}
use Rattle.indexmap.specs.Layout.{set_value_at}
use Rattle.index_lists.specs.declared.term.Term.{Term}
use Rattle.index_lists.specs.Listing.{Listed}
use Rattle.index_lists.specs.Steps.{StepsAt, Times}

abbrev pub Entry : Type 0
Entry = Term × Listed

-- one where the test passes
abbrev pub bit : Bool → ℕ
bit b = cond b 1 0

pub count_cons : {X : Type 0} (q : X → Bool) (x : X) (xs : List X) → count_by q (x ∷ xs) ≡ bit (q x) + count_by q xs
count_cons q x xs = sum_by-cons (λ y. bit (q y)) x xs

one_yes : (place x : ℕ) → nat_eq place x ≡ true → count_by (nat_eq place) (x ∷ []) ≡ 1
one_yes place x e = let c = count_cons (nat_eq place) x [] in let one : bit (nat_eq place x) ≡ 1 = ap bit e in omega (arith, c, one)

one_no : (place x : ℕ) → nat_eq place x ≡ false → count_by (nat_eq place) (x ∷ []) ≡ 0
one_no place x e = let c = count_cons (nat_eq place) x [] in let one : bit (nat_eq place x) ≡ 0 = ap bit e in omega (arith, c, one)

module _ (Step : Listed → Listed → Type 0) where
  pub steps_none : (lists : List Listed) → StepsAt Step [] lists lists
  steps_none lists = λ place new at. (new, at, refl)

  times_none : (n : ℕ) (old new : Listed) → n ≡ 0 → Times Step n old new → new ≡ old
  times_none n old new e t = subst (λ (k : ℕ). Times Step k old new) e t

  times_one : (n : ℕ) (old new : Listed) → n ≡ 1 → Times Step n old new → Step old new
  times_one n old new e t = let one : Times Step 1 old new = subst (λ (k : ℕ). Times Step k old new) e t in subst (λ (m : Listed). Step m new) one.1 one.2

  from_none : (n : ℕ) (old new : Listed) → n ≡ 0 → new ≡ old → Times Step n old new
  from_none n old new e same = subst (λ (k : ℕ). Times Step k old new) (sym e) same

  from_one : (n : ℕ) (old new : Listed) → n ≡ 1 → Step old new → Times Step n old new
  from_one n old new e step = subst (λ (k : ℕ). Times Step k old new) (sym e) (old, refl, step)

  pub times_more : (n k : ℕ) (old mid new : Listed) → k ≡ n + 1 → Times Step n old mid → Step mid new → Times Step k old new
  times_more n k old mid new e t step = let is : suc n ≡ k = omega (arith, e) in subst (λ (m : ℕ). Times Step m old new) is (mid, t, step)

  -- one place more
  pub steps_more : (places : List ℕ) (i : ℕ) (old mid new : List Listed) → i < length places → StepsAt Step (take i places) old mid → StepsAt Step (get_or places i 0 ∷ []) mid new → StepsAt Step (take (i + 1) places) old new
  steps_more places i old mid new within before step = λ place listed at.
      let here = step place listed at in
      let there = before place here.0 here.1 in
      let x = get_or places i 0 in (
        there.0,
        there.1,
        ⊎_elim
            (λ (yes : nat_eq place x ≡ true).
            times_more (count_by (nat_eq place) (take i places)) (count_by (nat_eq place) (take (i + 1) places)) there.0 here.0 listed (count_by_more_yes (nat_eq place) places i 0 within yes) there.2
            (times_one (count_by (nat_eq place) (x ∷ [])) here.0 listed (one_yes place x yes) here.2))
            (λ (no : nat_eq place x ≡ false).
            let same = times_none (count_by (nat_eq place) (x ∷ [])) here.0 listed (one_no place x no) here.2 in
            subst (λ (n : ℕ). Times Step n there.0 listed) (sym (count_by_more_no (nat_eq place) places i 0 within no)) (subst (λ (l : Listed). Times Step (count_by (nat_eq place) (take i places)) there.0 l) (sym same) there.2))
            (cases_Bool (nat_eq place x)),
      )

  pub steps_all : (places : List ℕ) (i : ℕ) (old new : List Listed) → length places ≤ i → StepsAt Step (take i places) old new → StepsAt Step places old new
  steps_all places i old new end steps = subst (λ (ps : List ℕ). StepsAt Step ps old new) (take_all i places end) steps

  -- the value at a place is written
  pub steps_set : (es : List Entry) (place : ℕ) (old new : Listed) → slice_get (values_of es) place ≡ Some old → Step old new → StepsAt Step (place ∷ []) (values_of es) (values_of (set_value_at es place new))
  steps_set es place old new was step = λ q listed at. ⊎_elim
      (λ (own : (q ≡ place) × (listed ≡ new)).
      let one = one_yes q place (same own.0) in
      (old, ap (slice_get (values_of es)) own.0 ∙ was, from_one (count_by (nat_eq q) (place ∷ [])) old listed one (subst (λ (l : Listed). Step old l) (sym own.1) step)))
      (λ (other : (q ≡ place → ⊥) × (slice_get (values_of es) q ≡ Some listed)). (listed, other.1, from_none (count_by (nat_eq q) (place ∷ [])) listed listed (one_no q place (differs other.0)) refl))
      (set_at es place q old new listed was at)
    where
      same : {q p : ℕ} → q ≡ p → nat_eq q p ≡ true
      same e = grind (arith, nat_tests, e)

      apart_from_zero : {q : ℕ} → suc q ≡ 0 → ⊥
      apart_from_zero e = omega (arith, e)

      set_at : (es : List Entry) (p q : ℕ) (old new listed : Listed) → slice_get (values_of es) p ≡ Some old → slice_get (values_of (set_value_at es p new)) q ≡ Some listed
          → ((q ≡ p) × (listed ≡ new)) ⊎ ((q ≡ p → ⊥) × (slice_get (values_of es) q ≡ Some listed))
      set_at [] p q old new listed was at = absurd cc
      set_at (e ∷ es) zero zero old new listed was at = let is : listed ≡ new = cc in inl (refl, is)
      set_at (e ∷ es) zero (suc q) old new listed was at = inr (apart_from_zero, at)
      set_at (e ∷ es) (suc p) zero old new listed was at = inr ((λ e. apart_from_zero (sym e)), at)
      set_at (e ∷ es) (suc p) (suc q) old new listed was at = ⊎_elim
          (λ (own : (q ≡ p) × (listed ≡ new)). inl (ap suc own.0, own.1))
          (λ (other : (q ≡ p → ⊥) × (slice_get (values_of es) q ≡ Some listed)). inr ((λ e. other.0 (omega (arith, e))), other.1))
          (set_at es p q old new listed was at)

      differs : {q p : ℕ} → (q ≡ p → ⊥) → nat_eq q p ≡ false
      differs apart = grind (arith, nat_tests, apart)

  -- there is no such place
  pub steps_nowhere : (lists : List Listed) (place : ℕ) → slice_get lists place ≡ None → StepsAt Step (place ∷ []) lists lists
  steps_nowhere lists place none = λ q listed at. ⊎_elim
      (λ (yes : nat_eq q place ≡ true). let nothing : None ≡ Some listed = sym none ∙ ap (slice_get lists) (is_one q place yes) ∙ at in absurd cc)
      (λ (no : nat_eq q place ≡ false). (listed, at, from_none (count_by (nat_eq q) (place ∷ [])) listed listed (one_no q place no) refl))
      (cases_Bool (nat_eq q place))
    where
      is_one : (a b : ℕ) → nat_eq a b ≡ true → b ≡ a
      is_one a b e = grind (arith, nat_tests, e)

-- what was there, written again
pub set_back : (es : List Entry) (place : ℕ) (w : Listed) → slice_get (values_of es) place ≡ Some w → values_of (set_value_at es place w) ≡ values_of es
set_back [] place w at = refl
set_back (e ∷ es) zero w at = let is : e.1 ≡ w = cc at in ap (λ (l : Listed). l ∷ values_of es) (sym is)
set_back (e ∷ es) (suc place) w at = ap (λ (ls : List Listed). e.1 ∷ ls) (set_back es place w at)
