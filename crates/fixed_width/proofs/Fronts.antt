-- A number of a fixed count of bytes is read off the front of a list in one way.
use Rattle.std.proofs.Common.{◌≡◌, ◌/◌, ℕ, zero, suc, ◌^◌, ◌<◌, List, [], ◌∷◌, ◌++◌, length, drop, get_or, refl, sym, ap, ◌∙◌, arith, ℤ, FitsSigned}
use Rattle.std.proofs.Math.Nat.{mod-lt}
use Rattle.std.proofs.Math.Seq.{drop-append_seam}
use Rattle.std.proofs.lemmas.List.{append-nil}
use Rattle.std.proofs.lemmas.Nat.{same_from_place}
use Rattle.std.proofs.Math.Facts.{Fits-of_z, Fits-lt-pow}
use Rattle.std.proofs.lemmas.Int.{to_z-of_z}
use Rattle.std.specs.Int.{w64, byte_at, bytes_high_first, cast_unsigned, cast_signed}
use Rattle.fixed_width.specs.Fields.{bytes_of_u16, bytes_of_u32, bytes_of_u64, bytes_of_i64}
use Rattle.byteorder.specs.Endian.{big_from, big_bytes, big_number}
use Rattle.byteorder.specs.Numbers.{big_from-cons, big_from-lt, big_number-reads_back, length-bytes_high_first}

-- what stands behind a front of n items
pub drop_front : {X : Type 0} (n : ℕ) (xs ys : List X) → length xs ≡ n → drop n (xs ++ ys) ≡ ys
drop_front n xs ys e = ap (λ (k : ℕ). drop k (xs ++ ys)) (sym e) ∙ drop-append_seam xs ys

-- each item is a byte
abbrev pub AreBytes : List ℕ → Type 0
AreBytes xs = (i : ℕ) → get_or xs i 0 < 256

AreBytes-tail : (x : ℕ) (xs : List ℕ) → AreBytes (x ∷ xs) → AreBytes xs
AreBytes-tail x xs h = λ i. h (suc i)

-- two lists of n bytes that are one number are one list
pub same_bytes : (n : ℕ) (xs ys : List ℕ) → length xs ≡ n → length ys ≡ n → AreBytes xs → AreBytes ys → big_from 0 n xs ≡ big_from 0 n ys → xs ≡ ys
same_bytes n [] [] a b h g e = refl
same_bytes n [] (y ∷ ys) a b h g e = absurd (omega arith)
same_bytes n (x ∷ xs) [] a b h g e = absurd (omega arith)
same_bytes zero (x ∷ xs) (y ∷ ys) a b h g e = absurd (omega arith)
same_bytes (suc n) (x ∷ xs) (y ∷ ys) a b h g e =
    let left : big_from 0 n xs < 256 ^ n = big_from-lt 0 n xs (AreBytes-tail x xs h) in
    let right : big_from 0 n ys < 256 ^ n = big_from-lt 0 n ys (AreBytes-tail y ys g) in
    let one = big_from-cons 0 n x xs in
    let two = big_from-cons 0 n y ys in
    let places = same_from_place x (big_from 0 n xs) y (big_from 0 n ys) (256 ^ n) left right (omega (arith, one, two, e)) in
    let rest : xs ≡ ys = same_bytes n xs ys (omega arith) (omega arith) (AreBytes-tail x xs h) (AreBytes-tail y ys g) places.1 in
    cc (places.0, rest)

byte_at-lt : (k x : ℕ) → byte_at k x < 256
byte_at-lt zero x = mod-lt x (omega arith)
byte_at-lt (suc k) x = mod-lt (x / 256 ^ suc k) (omega arith)

AreBytes-cons : (x : ℕ) (xs : List ℕ) → x < 256 → AreBytes xs → AreBytes (x ∷ xs)
AreBytes-cons x xs h g zero = h
AreBytes-cons x xs h g (suc i) = g i

pub AreBytes-big_bytes : (n x : ℕ) → AreBytes (big_bytes n x)
AreBytes-big_bytes zero x = λ i. omega arith
AreBytes-big_bytes (suc n) x = AreBytes-cons (byte_at n x) (big_bytes n x) (byte_at-lt n x) (AreBytes-big_bytes n x)

-- n bytes are those of the number that they are
pub big_bytes-big_number : (n : ℕ) (xs : List ℕ) → length xs ≡ n → AreBytes xs → big_bytes n (big_number n xs) ≡ xs
big_bytes-big_number n xs a h =
    let number : ℕ = big_from 0 n xs in
    let fits : big_from 0 n xs < 256 ^ n = big_from-lt 0 n xs h in
    let back : big_from 0 n (bytes_high_first n (big_from 0 n xs) ++ []) ≡ big_from 0 n xs = big_number-reads_back n (big_from 0 n xs) [] fits in
    same_bytes n (big_bytes n (big_from 0 n xs)) xs (length-bytes_high_first n (big_from 0 n xs)) a (AreBytes-big_bytes n (big_from 0 n xs)) h
    (ap (big_from 0 n) (sym (append-nil (bytes_high_first n (big_from 0 n xs)))) ∙ back)

-- a number, and what stands behind it, are read off a list in one way
pub same_front : (n x y : ℕ) (r s : List ℕ) → x < 256 ^ n → y < 256 ^ n → big_bytes n x ++ r ≡ big_bytes n y ++ s → (x ≡ y) × (r ≡ s)
same_front n x y r s a b e =
    let number : x ≡ y = sym (big_number-reads_back n x r a) ∙ ap (big_from 0 n) e ∙ big_number-reads_back n y s b in
    let left : drop n (bytes_high_first n x ++ r) ≡ r = drop_front n (bytes_high_first n x) r (length-bytes_high_first n x) in
    let right : drop n (bytes_high_first n y ++ s) ≡ s = drop_front n (bytes_high_first n y) s (length-bytes_high_first n y) in
    (number, sym left ∙ ap (drop n) e ∙ right)

-- ---- the same of the words that contracts cite

pub length-u16 : (x : ℕ) → length (bytes_of_u16 x) ≡ 2
unfolding bytes_of_u16
length-u16 x = length-bytes_high_first 2 x

pub length-u32 : (x : ℕ) → length (bytes_of_u32 x) ≡ 4
unfolding bytes_of_u32
length-u32 x = length-bytes_high_first 4 x

pub length-u64 : (x : ℕ) → length (bytes_of_u64 x) ≡ 8
unfolding bytes_of_u64
length-u64 x = length-bytes_high_first 8 x

pub length-i64 : (x : ℤ) → length (bytes_of_i64 x) ≡ 8
unfolding bytes_of_i64
length-i64 x = length-bytes_high_first 8 (cast_unsigned w64 x)

pub same_u16 : (x y : ℕ) (r s : List ℕ) → x < 2 ^ 16 → y < 2 ^ 16 → bytes_of_u16 x ++ r ≡ bytes_of_u16 y ++ s → (x ≡ y) × (r ≡ s)
unfolding bytes_of_u16
same_u16 x y r s a b e = same_front 2 x y r s a b e

pub same_u32 : (x y : ℕ) (r s : List ℕ) → x < 2 ^ 32 → y < 2 ^ 32 → bytes_of_u32 x ++ r ≡ bytes_of_u32 y ++ s → (x ≡ y) × (r ≡ s)
unfolding bytes_of_u32
same_u32 x y r s a b e = same_front 4 x y r s a b e

pub same_u64 : (x y : ℕ) (r s : List ℕ) → x < 2 ^ 64 → y < 2 ^ 64 → bytes_of_u64 x ++ r ≡ bytes_of_u64 y ++ s → (x ≡ y) × (r ≡ s)
unfolding bytes_of_u64
same_u64 x y r s a b e = same_front 8 x y r s a b e

pub same_i64 : (x y : ℤ) (r s : List ℕ) → FitsSigned w64 x → FitsSigned w64 y → bytes_of_i64 x ++ r ≡ bytes_of_i64 y ++ s → (x ≡ y) × (r ≡ s)
unfolding bytes_of_i64
same_i64 x y r s a b e =
    let both = same_front 8 (cast_unsigned w64 x) (cast_unsigned w64 y) r s (Fits-lt-pow (Fits-of_z a)) (Fits-lt-pow (Fits-of_z b)) e in
    (sym (to_z-of_z w64 x a) ∙ ap (cast_signed w64) both.0 ∙ to_z-of_z w64 y b, both.1)
