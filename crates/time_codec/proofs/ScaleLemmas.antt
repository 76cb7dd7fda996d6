-- Differences in units of a power of ten, and back.
use Rattle.std.proofs.Common.{◌≡◌, ◌⊎◌, ⊎_elim, ℕ, zero, suc, ◌+◌, ◌-◌, ◌*◌, ◌/◌, ◌%◌, ◌^◌, ◌<◌, ◌≤◌, true, false, ◌&&◌, eqb, ltb, List, [], ◌∷◌, slice_index, inl, inr, refl, sym, ◌∙◌, ap, subst, arith}
use Rattle.std.specs.Prelude.{All}
use Rattle.std.specs.List.{list_all}
use Rattle.std.specs.Cmp.{first_so, second_so, both_ways}
use Rattle.std.specs.Cmp.Derive.{both_true}
use Rattle.std.proofs.lemmas.Bool.{agree_below_at, eqb-true, eq-eqb, lt-ltb, cond-true, cond-false, cases_Bool, cases_lt, false≢true}
use Rattle.std.proofs.lemmas.Nat.{div-add-mod', pow-add}
use Rattle.std.proofs.Math.Nat.{mul_assoc, mul-mod_left, mul-div_cancel, one-le-pow}
use Rattle.std.proofs.lemmas.List.Elements.{All-head, All-tail}
use Rattle.time_codec.specs.Times.{divides_all, greatest_exponent, exponent_of, scaled, unscaled, all_same}

-- ---- the powers of ten

-- the table of the powers, by the exponent
abbrev pub power_by : ℕ → ℕ
power_by exponent = slice_index (1 ∷ 10 ∷ 100 ∷ 1000 ∷ 10000 ∷ 100000 ∷ 1000000 ∷ 10000000 ∷ 100000000 ∷ 1000000000 ∷ 10000000000 ∷ 100000000000 ∷ 1000000000000 ∷ []) exponent

pub power_is : (exponent : ℕ) → exponent ≤ 12 → power_by exponent ≡ 10 ^ exponent
power_is exponent most = eqb-true (power_by exponent) (10 ^ exponent) (agree_below_at (λ e. eqb (power_by e) (10 ^ e)) (λ _. true) 13 exponent refl (omega (arith, most)))

pub power_some : (exponent : ℕ) → exponent ≤ 12 → 0 < power_by exponent
power_some exponent most = omega (arith, power_is exponent most, one-le-pow exponent 10 (omega arith))

-- ---- the greatest exponent

pub greatest_at : (exponent : ℕ) (steps : List ℕ) → 0 < exponent → divides_all exponent steps ≡ true → greatest_exponent exponent steps ≡ exponent
unfolding greatest_exponent
greatest_at zero steps some all = absurd (omega arith)
greatest_at (suc most) steps some all = cond-true (divides_all (suc most) steps) (suc most) (greatest_exponent most steps) all

pub greatest_below : (exponent : ℕ) (steps : List ℕ) → 0 < exponent → divides_all exponent steps ≡ false → greatest_exponent exponent steps ≡ greatest_exponent (exponent - 1) steps
unfolding greatest_exponent
greatest_below zero steps some none = absurd (omega arith)
greatest_below (suc most) steps some none =
    let less : most ≡ suc most - 1 = omega arith in
    cond-false (divides_all (suc most) steps) (suc most) (greatest_exponent most steps) none ∙ ap (λ e. greatest_exponent e steps) less

pub greatest_zero : (steps : List ℕ) → greatest_exponent 0 steps ≡ 0
unfolding greatest_exponent
greatest_zero steps = refl

greatest_suc : (most : ℕ) (steps : List ℕ) → divides_all (suc most) steps ≡ false → greatest_exponent (suc most) steps ≡ greatest_exponent most steps
unfolding greatest_exponent
greatest_suc most steps none = cond-false (divides_all (suc most) steps) (suc most) (greatest_exponent most steps) none

pub greatest_most : (most : ℕ) (steps : List ℕ) → greatest_exponent most steps ≤ most
unfolding greatest_exponent
greatest_most zero steps = omega arith
greatest_most (suc most) steps = elim (cases_Bool (divides_all (suc most) steps)) [
  | inl all ↦ omega (arith, cond-true (divides_all (suc most) steps) (suc most) (greatest_exponent most steps) all)
  | inr none ↦ omega (arith, cond-false (divides_all (suc most) steps) (suc most) (greatest_exponent most steps) none, greatest_most most steps)
]

pub one_divides : (steps : List ℕ) → divides_all 0 steps ≡ true
one_divides [] = refl
one_divides (step ∷ steps) = let none : step % 1 ≡ 0 = omega arith in ap (λ n. eqb n 0 && divides_all 0 steps) none ∙ one_divides steps

pub greatest_divides : (most : ℕ) (steps : List ℕ) → divides_all (greatest_exponent most steps) steps ≡ true
unfolding greatest_exponent
greatest_divides zero steps = one_divides steps
greatest_divides (suc most) steps = elim (cases_Bool (divides_all (suc most) steps)) [
  | inl all ↦ ap (λ e. divides_all e steps) (cond-true (divides_all (suc most) steps) (suc most) (greatest_exponent most steps) all) ∙ all
  | inr none ↦ ap (λ e. divides_all e steps) (cond-false (divides_all (suc most) steps) (suc most) (greatest_exponent most steps) none) ∙ greatest_divides most steps
]

-- it is an exponent that divides, where none above it does
greatest_is : (most exponent : ℕ) (steps : List ℕ) → exponent ≤ most → divides_all exponent steps ≡ true → ((k : ℕ) → exponent < k → k ≤ most → divides_all k steps ≡ false) → greatest_exponent most steps ≡ exponent
greatest_is zero exponent steps within all none = let least : 0 ≡ exponent = omega arith in greatest_zero steps ∙ least
greatest_is (suc most) exponent steps within all none =
    ⊎_elim
    (λ below. greatest_suc most steps (none (suc most) below (omega arith)) ∙ greatest_is most exponent steps (omega arith) all (λ k above under. none k above (omega arith)))
    (λ over. let same : suc most ≡ exponent = omega arith in greatest_at (suc most) steps (omega arith) (subst (λ (e : ℕ). divides_all e steps ≡ true) (sym same) all) ∙ same)
    (cases_lt exponent (suc most))

-- none that divides is above it
greatest_over : (most exponent : ℕ) (steps : List ℕ) → exponent ≤ most → divides_all exponent steps ≡ true → exponent ≤ greatest_exponent most steps
greatest_over zero exponent steps within all = omega arith
greatest_over (suc most) exponent steps within all = elim (cases_Bool (divides_all (suc most) steps)) [
  | inl all_most ↦ omega (arith, greatest_at (suc most) steps (omega arith) all_most)
  | inr other ↦ ⊎_elim
      (λ below. omega (arith, greatest_suc most steps other, greatest_over most exponent steps (omega arith) all))
      (λ over. let same : exponent ≡ suc most = omega arith in absurd (false≢true (sym other ∙ subst (λ (e : ℕ). divides_all e steps ≡ true) same all)))
      (cases_lt exponent (suc most))
]

-- ---- powers of ten

ten_pow : (exponent : ℕ) → 0 < 10 ^ exponent
ten_pow exponent = omega (arith, one-le-pow exponent 10 (omega arith))

whole : (n m : ℕ) → n % m ≡ 0 → n ≡ n / m * m
whole n m none = omega (arith, div-add-mod' n m, none)

-- what a power divides, a lesser one does
divides_less_at : (j k n : ℕ) → j ≤ k → n % 10 ^ k ≡ 0 → n % 10 ^ j ≡ 0
divides_less_at j k n less none =
    let split : 10 ^ k ≡ 10 ^ (k - j) * 10 ^ j = ap (λ (e : ℕ). 10 ^ e) (let e : k ≡ (k - j) + j = omega arith in e) ∙ pow-add 10 (k - j) j in
    let factors : n ≡ n / 10 ^ k * 10 ^ (k - j) * 10 ^ j = whole n (10 ^ k) none ∙ ap (λ (m : ℕ). n / 10 ^ k * m) split ∙ sym (mul_assoc (n / 10 ^ k) (10 ^ (k - j)) (10 ^ j)) in
    ap (λ (m : ℕ). m % 10 ^ j) factors ∙ mul-mod_left (n / 10 ^ k * 10 ^ (k - j)) (10 ^ j)

divides_less : (j k : ℕ) (steps : List ℕ) → j ≤ k → divides_all k steps ≡ true → divides_all j steps ≡ true
divides_less j k [] less all = refl
divides_less j k (step ∷ steps) less all =
    let here = eqb-true (step % 10 ^ k) 0 (first_so (eqb (step % 10 ^ k) 0) (divides_all k steps) all) in
    both_true (eq-eqb (step % 10 ^ j) 0 (divides_less_at j k step less here)) (divides_less j k steps less (second_so (eqb (step % 10 ^ k) 0) (divides_all k steps) all))

-- ---- differences of so many units

-- ten times the unit divides so many units where ten divides their number
tens_at : (n unit : ℕ) → 0 < unit → (n * unit % (10 * unit) ≡ 0 → n % 10 ≡ 0) × (n % 10 ≡ 0 → n * unit % (10 * unit) ≡ 0)
tens_at n unit some = (
  λ none.
      let q : ℕ = n * unit / (10 * unit) in
      let same : n * unit ≡ q * 10 * unit = whole (n * unit) (10 * unit) none ∙ sym (mul_assoc q 10 unit) in
      let tens : n ≡ q * 10 = sym (mul-div_cancel n some) ∙ ap (λ (m : ℕ). m / unit) same ∙ mul-div_cancel (q * 10) some in
      ap (λ (m : ℕ). m % 10) tens ∙ mul-mod_left q 10,
  λ none.
      ap (λ (m : ℕ). m * unit % (10 * unit)) (whole n 10 none) ∙ ap (λ (m : ℕ). m % (10 * unit)) (mul_assoc (n / 10) 10 unit) ∙ mul-mod_left (n / 10) (10 * unit),
)

tens_all : (exponent : ℕ) (steps : List ℕ) → divides_all (exponent + 1) (unscaled exponent steps) ≡ divides_all 1 steps
tens_all exponent [] = refl
tens_all exponent (step ∷ steps) =
    let at = tens_at step (10 ^ exponent) (ten_pow exponent) in
    let more : 10 ^ (exponent + 1) ≡ 10 * 10 ^ exponent = pow-add 10 exponent 1 ∙ omega arith in
    let here : eqb (step * 10 ^ exponent % 10 ^ (exponent + 1)) 0 ≡ eqb (step % 10) 0 =
    ap (λ (m : ℕ). eqb (step * 10 ^ exponent % m) 0) more
    ∙ both_ways (eqb (step * 10 ^ exponent % (10 * 10 ^ exponent)) 0) (eqb (step % 10) 0)
    (λ h. eq-eqb (step % 10) 0 (at.0 (eqb-true _ 0 h))) (λ h. eq-eqb _ 0 (at.1 (eqb-true (step % 10) 0 h))) in
    ap (λ b. b && divides_all (exponent + 1) (unscaled exponent steps)) here ∙ ap (λ b. eqb (step % 10) 0 && b) (tens_all exponent steps)

units_divide : (exponent : ℕ) (steps : List ℕ) → divides_all exponent (unscaled exponent steps) ≡ true
units_divide exponent [] = refl
units_divide exponent (step ∷ steps) = both_true (eq-eqb (step * 10 ^ exponent % 10 ^ exponent) 0 (mul-mod_left step (10 ^ exponent))) (units_divide exponent steps)

-- the exponent is that of the differences, where it is the last one or ten doesn't divide all of their units
pub exponent_own : (exponent : ℕ) (steps : List ℕ) → exponent ≤ 12 → (exponent ≡ 12) ⊎ (divides_all 1 steps ≡ false) → exponent_of (unscaled exponent steps) ≡ exponent
exponent_own exponent steps most own =
    greatest_is 12 exponent (unscaled exponent steps) most (units_divide exponent steps) (λ k above within. ⊎_elim
    (λ last. absurd (omega arith))
    (λ none. ⊎_elim
    (λ yes. absurd (false≢true (sym none ∙ sym (tens_all exponent steps) ∙ divides_less (exponent + 1) k (unscaled exponent steps) (omega arith) yes)))
    (λ no. no)
    (cases_Bool (divides_all k (unscaled exponent steps))))
    own)

pub exponent_tens : (exponent : ℕ) (steps : List ℕ) → exponent < 12 → divides_all 1 steps ≡ true → exponent_of (unscaled exponent steps) ≡ exponent → ⊥
exponent_tens exponent steps below all own =
    omega (arith, own, greatest_over 12 (exponent + 1) (unscaled exponent steps) (omega arith) (tens_all exponent steps ∙ all))

-- what is divided by a power that divides it is found again
pub scaled_back : (exponent : ℕ) (steps : List ℕ) → divides_all exponent steps ≡ true → unscaled exponent (scaled exponent steps) ≡ steps
scaled_back exponent [] all = refl
scaled_back exponent (step ∷ steps) all =
    let here = eqb-true (step % 10 ^ exponent) 0 (first_so (eqb (step % 10 ^ exponent) 0) (divides_all exponent steps) all) in
    ap (λ s. s ∷ unscaled exponent (scaled exponent steps)) (sym (whole step (10 ^ exponent) here))
    ∙ ap (λ ss. step ∷ ss) (scaled_back exponent steps (second_so (eqb (step % 10 ^ exponent) 0) (divides_all exponent steps) all))

-- and so many units divided by the power are so many
pub scaled_unscaled : (exponent : ℕ) (steps : List ℕ) → scaled exponent (unscaled exponent steps) ≡ steps
scaled_unscaled exponent [] = refl
scaled_unscaled exponent (step ∷ steps) =
    ap (λ s. s ∷ scaled exponent (unscaled exponent steps)) (mul-div_cancel step (ten_pow exponent)) ∙ ap (λ ss. step ∷ ss) (scaled_unscaled exponent steps)

pub unscaled_zero : (steps : List ℕ) → unscaled 0 steps ≡ steps
unscaled_zero [] = refl
unscaled_zero (step ∷ steps) = let same : step * 1 ≡ step = omega arith in ap (λ s. s ∷ unscaled 0 steps) same ∙ ap (λ ss. step ∷ ss) (unscaled_zero steps)

same_all : (exponent first : ℕ) (steps : List ℕ) → list_all (λ step. eqb step (first * 10 ^ exponent)) (unscaled exponent steps) ≡ list_all (λ step. eqb step first) steps
same_all exponent first [] = refl
same_all exponent first (step ∷ steps) =
    let some = ten_pow exponent in
    let back : step * 10 ^ exponent ≡ first * 10 ^ exponent → step ≡ first = λ same. sym (mul-div_cancel step some) ∙ ap (λ (n : ℕ). n / 10 ^ exponent) same ∙ mul-div_cancel first some in
    let here : eqb (step * 10 ^ exponent) (first * 10 ^ exponent) ≡ eqb step first =
    both_ways (eqb (step * 10 ^ exponent) (first * 10 ^ exponent)) (eqb step first)
    (λ h. eq-eqb step first (back (eqb-true _ _ h))) (λ h. eq-eqb _ _ (ap (λ (n : ℕ). n * 10 ^ exponent) (eqb-true step first h))) in
    ap (λ b. b && list_all (λ s. eqb s (first * 10 ^ exponent)) (unscaled exponent steps)) here ∙ ap (λ b. eqb step first && b) (same_all exponent first steps)

-- equal numbers of units are equal differences
pub same_unscaled : (exponent : ℕ) (steps : List ℕ) → all_same (unscaled exponent steps) ≡ all_same steps
same_unscaled exponent [] = refl
same_unscaled exponent (first ∷ steps) = same_all exponent first steps

pub test_from_narrow : (steps : List ℕ) → All (λ step. step < 2 ^ 60) steps → list_all (λ step. ltb step (2 ^ 60)) steps ≡ true
test_from_narrow [] all = refl
test_from_narrow (step ∷ steps) all =
    both_true (lt-ltb step (2 ^ 60) (All-head (λ s. s < 2 ^ 60) step steps all)) (test_from_narrow steps (All-tail (λ s. s < 2 ^ 60) step steps all))
