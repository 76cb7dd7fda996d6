-- Numbers in order differ where no two neighbours are one.
use Rattle.std.proofs.Common.{◌≡◌, ℕ, suc, zero, ◌+◌, ◌<◌, ◌≤◌, false, true, List, length, get_or, refl, sym, ap, ◌∙◌, arith, nat_eq, Option, Some, None, ⊎_elim}
use Rattle.std.proofs.Math.Nat.{eq-or-lt_of_le}
use Rattle.std.specs.List.{IsDistinct}
use Rattle.std.specs.Option.{option_eq}
use Rattle.std.proofs.lemmas.Bool.{false≢true}
use Rattle.std.specs.List.Sorted.{IsNonDecreasing, IsStrictlyIncreasing, IsPermutation}
use Rattle.std.proofs.lemmas.Map.Keys.{sorted_from_strictly_increasing, below_from_sorted, apart_from_distinct, IsDistinct-from_apart, IsDistinct-IsPermutation}

-- up to here each number is below the next, and the last one is this
pub record Ascended (sorted : List ℕ) (k : ℕ) (last : Option ℕ) : Type 0 where
  pub rising : (j : ℕ) → j + 1 < k → get_or sorted j 0 < get_or sorted (j + 1) 0
  pub first : k ≡ 0 → last ≡ None
  pub ends : (j : ℕ) → k ≡ j + 1 → last ≡ Some (get_or sorted j 0)

pub ascended_none : (sorted : List ℕ) → Ascended sorted 0 None
ascended_none sorted = record { rising = λ j h. absurd (omega (arith, h)); first = λ e. refl; ends = λ j e. absurd (omega (arith, e)) }

-- a number that isn't the one before it is above that
pub ascended_one : (sorted : List ℕ) (k : ℕ) (last : Option ℕ) (number : ℕ) → IsNonDecreasing sorted → k < length sorted → Ascended sorted k last → number ≡ get_or sorted k 0 → (last ≡ Some number → ⊥) → Ascended sorted (k + 1) (Some number)
ascended_one sorted k last number up within done is other = record {
  rising = λ j h. rises j h;
  first = λ e. absurd (omega (arith, e));
  ends = λ j e. let same : k ≡ j = omega (arith, e) in ap (λ (n : ℕ). Some n) (is ∙ ap (λ (i : ℕ). get_or sorted i 0) same);
}
  where
    step : (j : ℕ) → k ≡ j + 1 → get_or sorted j 0 < get_or sorted (j + 1) 0
    step j e =
        let le : get_or sorted j 0 ≤ get_or sorted (j + 1) 0 = up j (j + 1) 0 (omega arith) (omega (arith, within, e)) in
        let here : get_or sorted k 0 ≡ get_or sorted (j + 1) 0 = ap (λ (i : ℕ). get_or sorted i 0) e in
        let apart : get_or sorted j 0 ≡ number → ⊥ = λ same. other (done.ends j e ∙ ap (λ (n : ℕ). Some n) same) in
        grind (arith, le, here, apart, is)

    rises : (j : ℕ) → j + 1 < k + 1 → get_or sorted j 0 < get_or sorted (j + 1) 0
    rises j h = ⊎_elim (λ same. step j (sym same)) (λ less. done.rising j less) (eq-or-lt_of_le (omega (arith, h)))

-- all numbers were seen
pub all_ascend : (sorted : List ℕ) (k : ℕ) (last : Option ℕ) → length sorted ≤ k → Ascended sorted k last → IsDistinct nat_eq sorted
all_ascend sorted k last all done =
    let up : IsStrictlyIncreasing sorted = λ j h. done.rising j (omega (arith, h, all)) in
    IsDistinct-from_apart nat_eq sorted (λ i j d g h. let below = below_from_sorted sorted i j d (sorted_from_strictly_increasing sorted up) g h in grind (arith, below))

-- two neighbours are one
pub met_again : (sorted : List ℕ) (k : ℕ) (last : Option ℕ) (number : ℕ) → k < length sorted → Ascended sorted k last → number ≡ get_or sorted k 0 → last ≡ Some number → IsDistinct nat_eq sorted → ⊥
met_again sorted zero last number within done is met once = none_is (sym (done.first refl) ∙ met)
  where
    none_is : None ≡ Some number → ⊥
    none_is e = cc e
met_again sorted (suc k) last number within done is met once =
    let before : Some (get_or sorted k 0) ≡ Some number = sym (done.ends k (omega arith)) ∙ met in
    let same : get_or sorted k 0 ≡ number = cc before in
    let apart : nat_eq (get_or sorted k 0) (get_or sorted (suc k) 0) ≡ false = apart_from_distinct nat_eq sorted k (suc k) 0 once (omega arith) within in
    grind (arith, apart, same, is)

pub met_last : (last : Option ℕ) (number : ℕ) → option_eq nat_eq last (Some number) ≡ true → last ≡ Some number
met_last None number met = absurd (false≢true met)
met_last (Some n) number met = let e : n ≡ number = grind (arith, met) in ap (λ (m : ℕ). Some m) e

pub other_last : (last : Option ℕ) (number : ℕ) → option_eq nat_eq last (Some number) ≡ false → last ≡ Some number → ⊥
other_last None number other same = none_some same
  where
    none_some : None ≡ Some number → ⊥
    none_some e = cc e
other_last (Some n) number other same = let e : n ≡ number = cc same in grind (arith, e, other)

-- in another order numbers differ as well
pub differ_permuted : (xs ys : List ℕ) → IsPermutation xs ys → IsDistinct nat_eq xs → IsDistinct nat_eq ys
differ_permuted xs ys same once = IsDistinct-IsPermutation nat_eq flips xs ys same once
  where
    flips : (x y : ℕ) → nat_eq x y ≡ nat_eq y x
    flips x y = grind arith
