-- Texts that lack a byte, and the texts of numbers.
use Rattle.std.proofs.Common.{◌≡◌, ◌<◌, ◌≤◌, ◌+◌, ◌^◌, ◌%◌, ℕ, ℤ, pos, negsuc, suc, Bool, true, false, not, ◌&&◌, ◌||◌, ◌==◌, nat_le, List, [], ◌∷◌, ◌++◌, length, inl, inr, refl, ap, sym, subst, ◌∙◌, arith}
use Rattle.std.specs.List.{list_all}
use Rattle.std.specs.Fmt.{decimal, signed_decimal}
use Rattle.std.specs.Str.Parse.{digits_value}
use Rattle.std.proofs.lemmas.Bool.Decides.{nat_tests, eqb_tells}
use Rattle.std.proofs.lemmas.List.Folds.{list_all-append}
use Rattle.std.proofs.lemmas.Fmt.{decimal_by_steps_wide, decimal_is_IsNumeral_wide}
use Rattle.session_model.specs.Readable.{Lacks, Fits65}

pub and_parts : (a b : Bool) → (a && b) ≡ true → (a ≡ true) × (b ≡ true)
and_parts true true h = (refl, refl)
and_parts true false h = cc
and_parts false b h = cc

pub both_true : (a b : Bool) → a ≡ true → b ≡ true → (a && b) ≡ true
both_true a b first second = ap (λ (t : Bool). t && b) first ∙ second

-- what passes a test passes a weaker one
pub all_weaker : (p q : ℕ → Bool) → ((b : ℕ) → p b ≡ true → q b ≡ true) → (bs : List ℕ) → list_all p bs ≡ true → list_all q bs ≡ true
all_weaker p q weaker [] h = refl
all_weaker p q weaker (b ∷ bs) h =
    let both = and_parts (p b) (list_all p bs) h in
    both_true (q b) (list_all q bs) (weaker b both.0) (all_weaker p q weaker bs both.1)

other_byte : (p : ℕ → Bool) (byte b : ℕ) → p byte ≡ false → p b ≡ true → not (b == byte) ≡ true
other_byte p byte b fails passes =
    elim (eqb_tells b byte) [ inl same ↦ cc (ap p same.1) | inr other ↦ rw other.0 refl ]

-- a text of bytes that pass a test lacks each byte that fails it
pub lacks_other : (p : ℕ → Bool) (byte : ℕ) → p byte ≡ false → (text : List ℕ) → list_all p text ≡ true → Lacks byte text
lacks_other p byte fails text each = all_weaker p (λ b. not (b == byte)) (λ b passes. other_byte p byte b fails passes) text each

pub lacks-append : (byte : ℕ) (a b : List ℕ) → Lacks byte a → Lacks byte b → Lacks byte (a ++ b)
lacks-append byte a b first second = list_all-append (λ x. not (x == byte)) a b ∙ both_true (list_all (λ x. not (x == byte)) a) (list_all (λ x. not (x == byte)) b) first second

not_itself : (byte : ℕ) → not (byte == byte) ≡ true → ⊥
not_itself byte differs = elim (eqb_tells byte byte) [ inl same ↦ cc (ap not same.0) | inr other ↦ other.1 refl ]

-- a text has one first place of a byte
pub cut_at : (byte : ℕ) (a b u v : List ℕ) → Lacks byte a → Lacks byte b → a ++ byte ∷ u ≡ b ++ byte ∷ v → (a ≡ b) × (u ≡ v)
cut_at byte [] [] u v first second same = (refl, cc)
cut_at byte [] (y ∷ b) u v first second same =
    let here = and_parts (not (y == byte)) (list_all (λ x. not (x == byte)) b) second in
    let head : byte ≡ y = cc in
    absurd (not_itself byte (ap (λ (x : ℕ). not (x == byte)) head ∙ here.0))
cut_at byte (x ∷ a) [] u v first second same =
    let here = and_parts (not (x == byte)) (list_all (λ z. not (z == byte)) a) first in
    let head : byte ≡ x = cc in
    absurd (not_itself byte (ap (λ (z : ℕ). not (z == byte)) head ∙ here.0))
cut_at byte (x ∷ a) (y ∷ b) u v first second same =
    let head : x ≡ y = cc in
    let tail : a ++ byte ∷ u ≡ b ++ byte ∷ v = cc in
    let rest = cut_at byte a b u v
    (and_parts (not (x == byte)) (list_all (λ z. not (z == byte)) a) first).1
    (and_parts (not (y == byte)) (list_all (λ z. not (z == byte)) b) second).1 tail in
    (cc (head, rest.0), rest.1)

-- a byte stands in what it stands between
pub not_between : (byte : ℕ) (a b : List ℕ) → Lacks byte (a ++ byte ∷ b) → ⊥
not_between byte [] b lacks = not_itself byte (and_parts (not (byte == byte)) (list_all (λ x. not (x == byte)) b) lacks).0
not_between byte (x ∷ a) b lacks = not_between byte a b (and_parts (not (x == byte)) (list_all (λ z. not (z == byte)) (a ++ byte ∷ b)) lacks).1

-- a text has one last place of a byte
pub cut_last : (byte : ℕ) (a b u v : List ℕ) → Lacks byte u → Lacks byte v → a ++ byte ∷ u ≡ b ++ byte ∷ v → (a ≡ b) × (u ≡ v)
cut_last byte [] [] u v first second same = (refl, cc)
cut_last byte [] (y ∷ b) u v first second same =
    let tail : u ≡ b ++ byte ∷ v = cc in
    absurd (not_between byte b v (subst (λ (t : List ℕ). Lacks byte t) tail first))
cut_last byte (x ∷ a) [] u v first second same =
    let tail : a ++ byte ∷ u ≡ v = cc in
    absurd (not_between byte a u (subst (λ (t : List ℕ). Lacks byte t) (sym tail) second))
cut_last byte (x ∷ a) (y ∷ b) u v first second same =
    let head : x ≡ y = cc in
    let tail : a ++ byte ∷ u ≡ b ++ byte ∷ v = cc in
    let rest = cut_last byte a b u v first second tail in
    (cc (head, rest.0), rest.1)

-- a byte that a number may begin with
unfoldable pub begins_number : ℕ → Bool
begins_number byte = (byte == 45) || (nat_le 48 byte && nat_le byte 57)

-- digits, and one at least
pub record HasDigits (text : List ℕ) : Type 0 where
  pub some : 0 < length text
  pub each : list_all begins_number text ≡ true
  pub no_minus : list_all (λ b. nat_le 48 b) text ≡ true

digit_begins : (n : ℕ) → n < 10 → begins_number (48 + n) ≡ true
unfolding begins_number
digit_begins n low = grind (arith, nat_tests)

digit_high : (n : ℕ) → n < 10 → nat_le 48 (48 + n) ≡ true
digit_high n low = grind (arith, nat_tests)

rest_low : (n : ℕ) → n % 10 < 10
rest_low n = omega arith

digits_more : (n : ℕ) (ds : List ℕ) → 10 ≤ n → HasDigits ds → HasDigits (ds ++ ((48 + n % 10) ∷ []))
digits_more n ds high h = record {
  some = let s = h.some in omega (arith, length-ds-more ds (48 + n % 10));
  each = list_all-append begins_number ds ((48 + n % 10) ∷ []) ∙ both_true (list_all begins_number ds) (begins_number (48 + n % 10) && true) h.each (both_true (begins_number (48 + n % 10)) true (digit_begins (n % 10) (rest_low n)) refl);
  no_minus = list_all-append (λ b. nat_le 48 b) ds ((48 + n % 10) ∷ []) ∙ both_true (list_all (λ b. nat_le 48 b) ds) (nat_le 48 (48 + n % 10) && true) h.no_minus (both_true (nat_le 48 (48 + n % 10)) true (digit_high (n % 10) (rest_low n)) refl);
}
  where
    length-ds-more : (xs : List ℕ) (x : ℕ) → length xs ≤ length (xs ++ x ∷ [])
    length-ds-more [] x = omega arith
    length-ds-more (y ∷ xs) x = let rest = length-ds-more xs x in omega arith

pub decimal_has_digits : (n : ℕ) → n ≤ 2 ^ 64 → HasDigits (decimal n)
decimal_has_digits n small = decimal_by_steps_wide (λ m ds. HasDigits ds)
    (λ m low. record {
      some = omega arith;
      each = both_true (begins_number (48 + m)) true (digit_begins m low) refl;
      no_minus = both_true (nat_le 48 (48 + m)) true (digit_high m low) refl;
    })
    digits_more n (omega arith)

pub decimal_one : (m n : ℕ) → m ≤ 2 ^ 64 → n ≤ 2 ^ 64 → decimal m ≡ decimal n → m ≡ n
decimal_one m n first second same =
    sym (decimal_is_IsNumeral_wide m (omega arith)).1 ∙ ap (digits_value 10) same ∙ (decimal_is_IsNumeral_wide n (omega arith)).1

-- no number without a sign begins with one
unsigned : (m n : ℕ) → m ≤ 2 ^ 64 → decimal m ≡ 45 ∷ decimal (suc n) → ⊥
unsigned m n small same =
    let high = (decimal_has_digits m small).no_minus in
    let here = and_parts (nat_le 48 45) (list_all (λ b. nat_le 48 b) (decimal (suc n))) (ap (list_all (λ b. nat_le 48 b)) (sym same) ∙ high) in
    let no : nat_le 48 45 ≡ false = refl in cc (here.0, no)

pub signed_one : (y z : ℤ) → Fits65 y → Fits65 z → signed_decimal y ≡ signed_decimal z → y ≡ z
signed_one (pos m) (pos n) first second same = ap pos (decimal_one m n (omega arith) (omega arith) same)
signed_one (pos m) (negsuc n) first second same = absurd (unsigned m n (omega arith) same)
signed_one (negsuc m) (pos n) first second same = absurd (unsigned n m (omega arith) (sym same))
signed_one (negsuc m) (negsuc n) first second same =
    let tail : decimal (suc m) ≡ decimal (suc n) = cc in
    let sum : suc m ≡ suc n = decimal_one (suc m) (suc n) (omega arith) (omega arith) tail in
    ap negsuc (omega arith)

-- what a number's text is made of
pub record HasSigned (text : List ℕ) : Type 0 where
  pub some : 0 < length text
  pub each : list_all begins_number text ≡ true

pub signed_is : (z : ℤ) → Fits65 z → HasSigned (signed_decimal z)
unfolding begins_number
signed_is (pos n) small = let h = decimal_has_digits n (omega arith) in record { some = h.some; each = h.each }
signed_is (negsuc n) small = let h = decimal_has_digits (suc n) (omega arith) in record { some = omega arith; each = h.each }

-- the first byte of a text that goes on behind a number
pub head_begins : (text rest tail : List ℕ) (byte : ℕ) → HasSigned text → text ++ rest ≡ byte ∷ tail → begins_number byte ≡ true
head_begins [] rest tail byte h same = absurd (let s = h.some in omega arith)
head_begins (x ∷ text) rest tail byte h same =
    let here = and_parts (begins_number x) (list_all begins_number text) h.each in
    let head : x ≡ byte = cc in
    ap begins_number (sym head) ∙ here.0
