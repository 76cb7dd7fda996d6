-- The first selector in whose bits a value stands, by the number of its own bits.
use Rattle.std.proofs.Common.{◌≡◌, ℕ, ◌+◌, ◌-◌, ◌*◌, ◌^◌, ◌<◌, ◌≤◌, ⊎_elim, Bool, true, ◌||◌, leb, ltb, [], ◌∷◌, slice_index, ap, sym, ◌∙◌, refl, arith}
use Rattle.std.proofs.lemmas.Bool.{agree_below, agree_below_at, leb-true, le-ltb, cases_lt}
use Rattle.std.proofs.lemmas.Nat.{leading_length, pow-add}
use Rattle.simple8b.specs.Words.{bits_of}
use Rattle.simple8b.proofs.Tables.{pow_le}
use lib.Count.{count_leading_zeros}

-- the table, by the number of bits
abbrev pub narrowest_by : ℕ → ℕ
narrowest_by size = slice_index (2 ∷ 2 ∷ 3 ∷ 4 ∷ 5 ∷ 6 ∷ 7 ∷ 8 ∷ 9 ∷ 10 ∷ 10 ∷ 11 ∷ 11 ∷ 12 ∷ 12 ∷ 12 ∷ 13 ∷ 13 ∷ 13 ∷ 13 ∷ 13 ∷ 14 ∷ 14 ∷ 14 ∷ 14 ∷ 14 ∷ 14 ∷ 14 ∷ 14 ∷ 14 ∷ 14 ∷ 15 ∷ 15 ∷ 15 ∷ 15 ∷ 15 ∷ 15 ∷ 15 ∷ 15 ∷ 15 ∷ 15 ∷ 15 ∷ 15 ∷ 15 ∷ 15 ∷ 15 ∷ 15 ∷ 15 ∷ 15 ∷ 15 ∷ 15 ∷ 15 ∷ 15 ∷ 15 ∷ 15 ∷ 15 ∷ 15 ∷ 15 ∷ 15 ∷ 15 ∷ 15 ∷ []) size

pub narrowest_least : (size : ℕ) → size < 61 → 2 ≤ narrowest_by size
narrowest_least size h = leb-true 2 (narrowest_by size) (agree_below_at (λ n. leb 2 (narrowest_by n)) (λ _. true) 61 size refl h)

pub narrowest_most : (size : ℕ) → size < 61 → narrowest_by size ≤ 15
narrowest_most size h = leb-true (narrowest_by size) 15 (agree_below_at (λ n. leb (narrowest_by n) 15) (λ _. true) 61 size refl h)

wide_enough : (size : ℕ) → size < 61 → size ≤ bits_of (narrowest_by size)
unfolding bits_of
wide_enough size h = leb-true size (bits_of (narrowest_by size)) (agree_below_at (λ n. leb n (bits_of (narrowest_by n))) (λ _. true) 61 size refl h)

-- each lower selector from 2 upward has fewer bits than the value
lower_ones : ℕ → Bool
lower_ones size = agree_below (λ k. ltb k 2 || leb (bits_of k + 1) size) (λ _. true) (narrowest_by size)

too_narrow : (size k : ℕ) → size < 61 → 2 ≤ k → k < narrowest_by size → bits_of k + 1 ≤ size
unfolding bits_of lower_ones
too_narrow size k h low below =
    let all : lower_ones size ≡ true = agree_below_at lower_ones (λ _. true) 61 size refl h in
    let one : (ltb k 2 || leb (bits_of k + 1) size) ≡ true = agree_below_at (λ j. ltb j 2 || leb (bits_of j + 1) size) (λ _. true) (narrowest_by size) k all below in
    leb-true (bits_of k + 1) size (sym (ap (λ (b : Bool). b || leb (bits_of k + 1) size) (le-ltb k 2 low)) ∙ one)

-- how many bits a value has
pub record HasSize (value size : ℕ) : Type 0 where
  pub most : size < 61
  pub above : value < 2 ^ size
  pub least : 2 ^ size ≤ 2 * value + 1

pub size_of : (value : ℕ) → value < 2 ^ 60 → HasSize value (64 - count_leading_zeros 64 value)
size_of value narrow =
    let fits : value < 2 ^ 64 = omega arith in
    let found = leading_length 64 value fits in
    let size : 64 - count_leading_zeros 64 value ≡ found.0 = omega (arith, found.1) in
    let power = ap (λ (n : ℕ). 2 ^ n) size in
    record {
      most = ⊎_elim (λ below. below) (λ over. absurd (omega (arith, pow_le 61 _ over, power, found.3))) (cases_lt (64 - count_leading_zeros 64 value) 61);
      above = omega (arith, power, found.2);
      least = omega (arith, power, found.3);
    }

pub narrowest_wide : (value size : ℕ) → HasSize value size → value < 2 ^ bits_of (narrowest_by size)
narrowest_wide value size has = omega (arith, has.above, pow_le size (bits_of (narrowest_by size)) (wide_enough size has.most))

pub narrowest_first : (value size : ℕ) → HasSize value size → (k : ℕ) → 2 ≤ k → k < narrowest_by size → 2 ^ bits_of k ≤ value
narrowest_first value size has k low below =
    omega (arith, has.least, pow_le (bits_of k + 1) size (too_narrow size k has.most low below), pow-add 2 (bits_of k) 1)
