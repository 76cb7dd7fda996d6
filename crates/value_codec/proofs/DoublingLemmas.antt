-- Bits that are doubled one by one.
use Rattle.std.proofs.Common.{◌≡◌, ℕ, zero, suc, ◌+◌, ◌*◌, ◌/◌, ◌^◌, ◌<◌, ◌≤◌, Bool, true, false, cond, eqb, leb, List, map, drop, length, get_or, refl, sym, ◌∙◌, ap, arith}
use Rattle.std.proofs.lemmas.Bool.{eqb-true, leb-true, agree_below_at}
use Rattle.std.proofs.lemmas.Nat.{shr-shr}
use Rattle.std.proofs.lemmas.List.{at_drop_more, at_drop_all}
use Rattle.tsdb_types.specs.declared.value.Value.{Value}
use Rattle.value_codec.specs.Booleans.{byte_of}
use Rattle.value_codec.specs.Coding.{truth_of}
use Rattle.value_codec.proofs.BitLemmas.{byte_of-nil, byte_of-cons, byte_of-lt}

halved : (k : ℕ) → k < 8 → 256 / 2 ^ k ≡ 2 * (256 / 2 ^ k / 2)
halved k below = eqb-true (256 / 2 ^ k) (2 * (256 / 2 ^ k / 2)) (agree_below_at (λ i. eqb (256 / 2 ^ i) (2 * (256 / 2 ^ i / 2))) (λ _. true) 8 k refl below)

some : (k : ℕ) → k ≤ 8 → 1 ≤ 256 / 2 ^ k
some k most = leb-true 1 (256 / 2 ^ k) (agree_below_at (λ i. leb 1 (256 / 2 ^ i)) (λ _. true) 9 k refl (omega (arith, most)))

pub unit_even : (unit k : ℕ) → k < 8 → unit ≡ 256 / 2 ^ k → unit ≡ 2 * (unit / 2)
unit_even unit k below is = is ∙ halved k below ∙ ap (λ (u : ℕ). 2 * (u / 2)) (sym is)

pub unit_some : (unit k : ℕ) → k ≤ 8 → unit ≡ 256 / 2 ^ k → 1 ≤ unit
unit_some unit k most is = omega (arith, some k most, is)

pub unit_next : (unit k : ℕ) → unit ≡ 256 / 2 ^ k → unit / 2 ≡ 256 / 2 ^ (k + 1)
unit_next unit k is = ap (λ (u : ℕ). u / 2) is ∙ shr-shr 256 k 1

at_most : (a b : ℕ) → 1 ≤ b → a ≤ a * b
at_most a zero p = absurd (omega arith)
at_most zero (suc b) p = omega arith
at_most (suc a) (suc b) p = omega (arith, at_most a (suc b) p)

-- what is read so far is within a byte
pub bits_within : (bits unit rest k : ℕ) (truths : List Bool) → k ≤ 8 → unit ≡ 256 / 2 ^ k → bits * unit + rest ≡ byte_of 128 truths → (bits * unit < 256) × (bits < 256)
bits_within bits unit rest k truths most is read =
    let whole : bits * unit < 256 = omega (arith, read, byte_of-lt 128 truths (omega arith)) in
    (whole, omega (arith, whole, at_most bits unit (unit_some unit k most is)))

doubled : (bits half : ℕ) (truth : Bool) (one : ℕ) → one ≡ cond truth 1 0 → (bits * 2 + one) * half ≡ bits * (2 * half) + cond truth half 0
doubled bits half true one is = ap (λ (n : ℕ). (bits * 2 + n) * half) is ∙ omega arith
doubled bits half false one is = ap (λ (n : ℕ). (bits * 2 + n) * half) is ∙ omega arith

-- one more Boolean
pub read_more : (values : List Value) (k bits unit one all : ℕ) (other : Value) → k < length values → k < 8 → unit ≡ 256 / 2 ^ k → one ≡ cond (truth_of (get_or values k other)) 1 0
    → bits * unit + byte_of (unit / 2) (map truth_of (drop k values)) ≡ all
    → (bits * 2 + one) * (unit / 2) + byte_of (unit / 2 / 2) (map truth_of (drop (k + 1) values)) ≡ all
read_more values k bits unit one all other below few is one-is read =
    let truth = truth_of (get_or values k other) in
    omega (
      arith,
      read,
      doubled bits (unit / 2) truth one one-is,
      ap (λ (u : ℕ). bits * u) (unit_even unit k few is),
      at_drop_more (λ vs. byte_of (unit / 2) (map truth_of vs)) values k other below ∙ byte_of-cons (unit / 2) truth (map truth_of (drop (k + 1) values)),
    )

pub read_all : (values : List Value) (k bits unit all : ℕ) → length values ≤ k → bits * unit + byte_of (unit / 2) (map truth_of (drop k values)) ≡ all → bits * unit ≡ all
read_all values k bits unit all end read =
    omega (arith, read, at_drop_all (λ vs. byte_of (unit / 2) (map truth_of vs)) values k end, byte_of-nil (unit / 2))
