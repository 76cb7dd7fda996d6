-- Facts on the sixteen selectors, each found by a test of all of them.
use Rattle.std.proofs.Common.{◌≡◌, ℕ, zero, suc, ◌+◌, ◌-◌, ◌*◌, ◌^◌, ◌<◌, ◌≤◌, Bool, true, ◌||◌, eqb, leb, ltb, [], ◌∷◌, slice_index, ⊎_elim, ap, sym, ◌∙◌, refl, arith}
use Rattle.std.proofs.lemmas.Bool.{agree_below, agree_below_at, leb-true, eqb-true, le-ltb, cases_lt}
use Rattle.std.proofs.lemmas.Nat.{pow_below}
use Rattle.simple8b.specs.Words.{count_of, bits_of}

-- a test that is met by each number below n
met_below : (test : ℕ → Bool) (n k : ℕ) → agree_below test (λ _. true) n ≡ true → k < n → test k ≡ true
met_below test n k all below = agree_below_at test (λ _. true) n k all below

pub count_some : (selector : ℕ) → selector < 16 → 1 ≤ count_of selector
unfolding count_of
count_some selector h = leb-true 1 (count_of selector) (met_below (λ s. leb 1 (count_of s)) 16 selector refl h)

pub count_most : (selector : ℕ) → selector < 16 → count_of selector ≤ 240
unfolding count_of
count_most selector h = leb-true (count_of selector) 240 (met_below (λ s. leb (count_of s) 240) 16 selector refl h)

pub used_most : (selector : ℕ) → selector < 16 → bits_of selector * count_of selector ≤ 60
unfolding count_of bits_of
used_most selector h = leb-true (bits_of selector * count_of selector) 60 (met_below (λ s. leb (bits_of s * count_of s) 60) 16 selector refl h)

-- the table of the lower bits that hold values, by the selector
abbrev pub used_by : ℕ → ℕ
used_by selector = slice_index (0 ∷ 0 ∷ 60 ∷ 60 ∷ 60 ∷ 60 ∷ 60 ∷ 60 ∷ 56 ∷ 56 ∷ 60 ∷ 60 ∷ 60 ∷ 60 ∷ 60 ∷ 60 ∷ []) selector

pub used_is : (selector : ℕ) → selector < 16 → used_by selector ≡ bits_of selector * count_of selector
unfolding count_of bits_of
used_is selector h = eqb-true (used_by selector) (bits_of selector * count_of selector) (met_below (λ s. eqb (used_by s) (bits_of s * count_of s)) 16 selector refl h)

pub bits_most : (selector : ℕ) → selector < 16 → bits_of selector ≤ 60
unfolding bits_of
bits_most selector h = leb-true (bits_of selector) 60 (met_below (λ s. leb (bits_of s) 60) 16 selector refl h)

-- a higher selector gives each value no fewer bits
pub bits_rise : (selector : ℕ) → selector < 15 → bits_of selector ≤ bits_of (selector + 1)
unfolding bits_of
bits_rise selector h = leb-true (bits_of selector) (bits_of (selector + 1)) (met_below (λ s. leb (bits_of s) (bits_of (s + 1))) 15 selector refl h)

pub count_last : count_of 15 ≡ 1
unfolding count_of
count_last = refl

pub bits_last : bits_of 15 ≡ 60
unfolding bits_of
bits_last = refl

pub count_first : count_of 0 ≡ 240
unfolding count_of
count_first = refl

pub count_second : count_of 1 ≡ 120
unfolding count_of
count_second = refl

pub bits_some : (selector : ℕ) → 2 ≤ selector → selector < 16 → 1 ≤ bits_of selector
unfolding bits_of
bits_some selector low h = leb-true 1 (bits_of selector) (or_right_at (met_below (λ s. ltb s 2 || leb 1 (bits_of s)) 16 selector refl h))
  where
    or_right_at : (ltb selector 2 || leb 1 (bits_of selector)) ≡ true → leb 1 (bits_of selector) ≡ true
    or_right_at e = sym (ap (λ (b : Bool). b || leb 1 (bits_of selector)) (le-ltb selector 2 low)) ∙ e

-- a power of two by its exponent
pub pow_le : (i j : ℕ) → i ≤ j → 2 ^ i ≤ 2 ^ j
pow_le i j h = ⊎_elim (λ below. omega (arith, pow_below i j below)) (λ same. let e : i ≡ j = omega arith in omega (arith, ap (λ (k : ℕ). 2 ^ k) e)) (cases_lt i j)

pub ones_bits : (selector : ℕ) → selector < 2 → bits_of selector ≡ 0
unfolding bits_of
ones_bits zero low = refl
ones_bits (suc zero) low = refl
ones_bits (suc (suc selector)) low = absurd (omega arith)

-- a pair of numbers below n of which the lower comes first
met_by_pairs : (test : ℕ → ℕ → Bool) (n i j : ℕ) → agree_below (λ b. agree_below (λ a. test a b) (λ _. true) b) (λ _. true) n ≡ true → i < j → j < n → test i j ≡ true
met_by_pairs test n i j all below h = met_below (λ a. test a j) j i (met_below (λ b. agree_below (λ a. test a b) (λ _. true) b) n j all h) below

-- a higher selector holds fewer values
pub count_falls : (i j : ℕ) → i < j → j < 16 → count_of j ≤ count_of i
unfolding count_of
count_falls i j below h = leb-true (count_of j) (count_of i) (met_by_pairs (λ a b. leb (count_of b) (count_of a)) 16 i j refl below h)

-- and gives each no fewer bits
pub bits_least : (i j : ℕ) → i ≤ j → j < 16 → bits_of i ≤ bits_of j
unfolding bits_of
bits_least i j within h =
    ⊎_elim
    (λ below. leb-true (bits_of i) (bits_of j) (met_by_pairs (λ a b. leb (bits_of a) (bits_of b)) 16 i j refl below h))
    (λ same. let e : i ≡ j = omega arith in omega (arith, ap bits_of e))
    (cases_lt i j)

pub bits_before : (selector : ℕ) → 1 ≤ selector → selector < 16 → bits_of (selector - 1) ≤ bits_of selector
bits_before selector some h = bits_least (selector - 1) selector (omega arith) h
