-- Digits, and the number that they write.
use Rattle.std.proofs.Common.{◌≡◌, ◌<◌, ◌≤◌, ◌-◌, ◌^◌, ℕ, zero, suc, Bool, true, false, ◌&&◌, nat_le, List, [], ◌∷◌, length, take, get_or, refl, sym, ap, ◌∙◌, arith, ◌==◌, Some, None, if◌then◌else◌}
use Rattle.std.specs.Str.{all_ascii_digits}
use Rattle.std.specs.Str.Parse.{AllDigits, IsNumeral, digits_value}
use Rattle.std.proofs.Math.Nat.{pow-le-pow_right}
use Rattle.std.proofs.lemmas.Int.Digits.{digits_value-lt}
use Rattle.session_model.specs.Words.{number_in}
use Rattle.std.specs.Char.{digit_value, is_ascii_digit}
use Rattle.std.proofs.lemmas.Bool.Decides.{nat_tests}
use Rattle.std.proofs.lemmas.Str.Parse.{digit_from_value}
use Rattle.std.proofs.lemmas.Str.{digit_value_digit}

pub all_digits_more : (ds : List ℕ) (i : ℕ) → i < length ds → AllDigits 10 (take i ds) → digit_value (get_or ds i 0) < 10 → AllDigits 10 (take (suc i) ds)
all_digits_more [] i below digits low = absurd (omega arith)
all_digits_more (d ∷ ds) zero below digits low = (low, tt)
all_digits_more (d ∷ ds) (suc i) below digits low = (digits.0, all_digits_more ds i (omega arith) digits.1 low)

pub digit_at : (ds : List ℕ) (i : ℕ) → i < length ds → AllDigits 10 ds → digit_value (get_or ds i 0) < 10
digit_at [] i below digits = absurd (omega arith)
digit_at (d ∷ ds) zero below digits = digits.0
digit_at (d ∷ ds) (suc i) below digits = digit_at ds i (omega arith) digits.1

is_digit_from_value : (c : ℕ) → digit_value c < 10 → is_ascii_digit c ≡ true
is_digit_from_value c low = let range = digit_from_value c low in grind (arith, nat_tests)

pub no_digit : (c : ℕ) (t : Bool) → t ≡ is_ascii_digit c → t ≡ false → digit_value c < 10 → ⊥
no_digit c t is fails low = let yes = is_digit_from_value c low in cc

pub record IsDigitAt (c : ℕ) : Type 0 where
  pub low : digit_value c < 10
  pub value : digit_value c ≡ c - 48
  pub high : 48 ≤ c

pub some_digit : (c : ℕ) (t : Bool) → t ≡ is_ascii_digit c → t ≡ true → IsDigitAt c
some_digit c t is passes =
    let yes : is_ascii_digit c ≡ true = sym is ∙ passes in
    let low : 48 ≤ c = grind (arith, nat_tests) in
    let high : c ≤ 57 = grind (arith, nat_tests) in
    let value = digit_value_digit c (low, high) in
    record { low = omega arith; value = omega arith; high = low }

pub some_length : (n : ℕ) → (n == 0) ≡ false → 0 < n
some_length zero h = cc
some_length (suc n) h = omega arith

pub no_items : (l : List ℕ) → (length l == 0) ≡ true → l ≡ []
no_items [] h = refl
no_items (x ∷ l) h = cc (not_zero (length l), h)
  where
    not_zero : (n : ℕ) → (suc n == 0) ≡ false
    not_zero n = grind (arith, nat_tests)

pub digits_below : (k : ℕ) (ds : List ℕ) → AllDigits 10 ds → length ds ≤ k → digits_value 10 ds < 10 ^ k
digits_below k ds digits short =
    let here = digits_value-lt 10 ds digits in
    let more : 10 ^ length ds ≤ 10 ^ k = pow-le-pow_right {n = 10} (omega arith) short in
    omega arith

-- Numbers as the language has them.

both : (a b : Bool) → a ≡ true → b ≡ true → (a && b) ≡ true
both a b first second = ap (λ (t : Bool). t && b) first ∙ second

digit_passes : (c : ℕ) → digit_value c < 10 → is_ascii_digit c ≡ true
digit_passes c low = is_digit_from_value c low

digits_pass : (ds : List ℕ) → AllDigits 10 ds → all_ascii_digits ds ≡ true
digits_pass [] digits = refl
digits_pass (d ∷ ds) digits = both (is_ascii_digit d) (all_ascii_digits ds) (digit_passes d digits.0) (digits_pass ds digits.1)

and_left : (a b : Bool) → (a && b) ≡ true → a ≡ true
and_left true b h = refl
and_left false b h = h

and_right : (a b : Bool) → (a && b) ≡ true → b ≡ true
and_right true b h = h
and_right false b h = cc

pass_digits : (ds : List ℕ) → all_ascii_digits ds ≡ true → AllDigits 10 ds
pass_digits [] h = tt
pass_digits (d ∷ ds) h =
    ((some_digit d (is_ascii_digit d) refl (and_left (is_ascii_digit d) (all_ascii_digits ds) h)).low, pass_digits ds (and_right (is_ascii_digit d) (all_ascii_digits ds) h))

-- a numeral that is short enough is the number
pub number_some : (most : ℕ) (ds : List ℕ) → IsNumeral 10 ds → length ds ≤ most → number_in most ds ≡ Some (digits_value 10 ds)
unfolding number_in
number_some most ds numeral short =
    let some = numeral.0 in
    let low : nat_le 1 (length ds) ≡ true = grind (arith, nat_tests) in
    let high : nat_le (length ds) most ≡ true = grind (arith, nat_tests) in
    ap (λ (t : Bool). if t then Some (digits_value 10 ds) else None)
    (both (nat_le 1 (length ds) && nat_le (length ds) most) (all_ascii_digits ds) (both (nat_le 1 (length ds)) (nat_le (length ds) most) low high) (digits_pass ds numeral.1))

if_not : (t : Bool) (n : ℕ) → (t ≡ true → ⊥) → (if t then Some n else None) ≡ None
if_not true n never = absurd (never refl)
if_not false n never = refl

-- what isn't one, or isn't short enough, is none
pub number_none : (most : ℕ) (ds : List ℕ) → (IsNumeral 10 ds → length ds ≤ most → ⊥) → number_in most ds ≡ None
unfolding number_in
number_none most ds never = if_not ((nat_le 1 (length ds) && nat_le (length ds) most) && all_ascii_digits ds) (digits_value 10 ds) (λ passes.
    let lengths = and_left (nat_le 1 (length ds) && nat_le (length ds) most) (all_ascii_digits ds) passes in
    let low : nat_le 1 (length ds) ≡ true = and_left (nat_le 1 (length ds)) (nat_le (length ds) most) lengths in
    let high : nat_le (length ds) most ≡ true = and_right (nat_le 1 (length ds)) (nat_le (length ds) most) lengths in
    let digits = pass_digits ds (and_right (nat_le 1 (length ds) && nat_le (length ds) most) (all_ascii_digits ds) passes) in
    let some : 0 < length ds = grind (arith, nat_tests) in
    let short : length ds ≤ most = grind (arith, nat_tests) in
    never (some, digits) short)
