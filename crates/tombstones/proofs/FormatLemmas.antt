-- The bytes of tombstones: one is put, one is taken, and none is there.
use Rattle.std.proofs.Common.{◌≡◌, ℕ, ◌+◌, ◌<◌, ◌^◌, List, [], ◌∷◌, ◌++◌, length, Option, Some, None, IfNone, refl, sym, ap, ◌∙◌, arith}
use Rattle.std.specs.List.{AllByRecursion, flat_map}
use Rattle.std.proofs.lemmas.List.{append_assoc, length-append}
use Rattle.fixed_width.specs.Fields.{bytes_of_u32, bytes_of_i64}
use Rattle.fixed_width.proofs.Fronts.{length-u32, length-i64, same_u32, same_i64}
use Rattle.tombstones.specs.Covered.{Tomb}
use Rattle.tombstones.specs.Format.{tomb_bytes, IsWritable, BeginsNone}

-- four parts, put one behind the other
pub regroup : (out a b c d : List ℕ) → (((out ++ a) ++ b) ++ c) ++ d ≡ out ++ (((a ++ b) ++ c) ++ d)
regroup out a b c d = simp append_assoc

pub put_all : (out a b c d x y z w : List ℕ) → x ≡ out ++ a → y ≡ x ++ b → z ≡ y ++ c → w ≡ z ++ d → w ≡ out ++ (((a ++ b) ++ c) ++ d)
put_all out a b c d x y z w e f g h =
    h ∙ ap (λ (l : List ℕ). l ++ d) (g ∙ ap (λ (l : List ℕ). l ++ c) (f ∙ ap (λ (l : List ℕ). l ++ b) e)) ∙ regroup out a b c d

from_right : (a b c d rest : List ℕ) → (((a ++ b) ++ c) ++ d) ++ rest ≡ a ++ (b ++ (c ++ (d ++ rest)))
from_right a b c d rest = simp append_assoc

-- the parts of a tombstone, from its front
pub parts : (tomb : Tomb) (rest : List ℕ) → tomb_bytes tomb ++ rest ≡ bytes_of_u32 (length tomb.key) ++ (tomb.key ++ (bytes_of_i64 tomb.range.from ++ (bytes_of_i64 tomb.range.to ++ rest)))
unfolding tomb_bytes
parts tomb rest = from_right (bytes_of_u32 (length tomb.key)) tomb.key (bytes_of_i64 tomb.range.from) (bytes_of_i64 tomb.range.to) rest

length_behind : (tomb : Tomb) (rest : List ℕ) → length (tomb.key ++ (bytes_of_i64 tomb.range.from ++ (bytes_of_i64 tomb.range.to ++ rest))) ≡ length tomb.key + 16 + length rest
length_behind tomb rest =
    let a = length-append tomb.key (bytes_of_i64 tomb.range.from ++ (bytes_of_i64 tomb.range.to ++ rest)) in
    let b = length-append (bytes_of_i64 tomb.range.from) (bytes_of_i64 tomb.range.to ++ rest) in
    let c = length-append (bytes_of_i64 tomb.range.to) rest in
    let d = length-i64 tomb.range.from in
    let e = length-i64 tomb.range.to in
    omega arith

pub tomb_long : (tomb : Tomb) (rest : List ℕ) → length (tomb_bytes tomb ++ rest) ≡ 20 + length tomb.key + length rest
tomb_long tomb rest =
    let a = ap length (parts tomb rest) in
    let b = length-append (bytes_of_u32 (length tomb.key)) (tomb.key ++ (bytes_of_i64 tomb.range.from ++ (bytes_of_i64 tomb.range.to ++ rest))) in
    let c = length-u32 (length tomb.key) in
    let d = length_behind tomb rest in
    omega arith

-- ---- none is there

pub too_short : (bytes : List ℕ) → length bytes < 20 → BeginsNone bytes
too_short bytes h tomb rest w e = let long = ap length e ∙ tomb_long tomb rest in omega arith

pub cut_short : (bytes behind : List ℕ) (n : ℕ) → n < 2 ^ 32 → bytes ≡ bytes_of_u32 n ++ behind → length behind < n + 16 → BeginsNone bytes
cut_short bytes behind n fits is h tomb rest w e =
    let both = same_u32 n (length tomb.key) behind (tomb.key ++ (bytes_of_i64 tomb.range.from ++ (bytes_of_i64 tomb.range.to ++ rest))) fits w.key (sym is ∙ e ∙ parts tomb rest) in
    let same = both.0 in
    let long = ap length both.1 ∙ length_behind tomb rest in
    omega arith

pub if_none : {T : Type 0} {P : Type 0} (r : Option T) → P → IfNone r P
if_none None p = p
if_none (Some x) p = tt

-- ---- one is there

pub whole_tomb : (tomb : Tomb) (bytes one two three rest : List ℕ) → bytes ≡ bytes_of_u32 (length tomb.key) ++ one → one ≡ tomb.key ++ two → two ≡ bytes_of_i64 tomb.range.from ++ three → three ≡ bytes_of_i64 tomb.range.to ++ rest
    → bytes ≡ tomb_bytes tomb ++ rest
whole_tomb tomb bytes one two three rest a b c d =
    a ∙ ap (λ (l : List ℕ). bytes_of_u32 (length tomb.key) ++ l) (b ∙ ap (λ (l : List ℕ). tomb.key ++ l) (c ∙ ap (λ (l : List ℕ). bytes_of_i64 tomb.range.from ++ l) d)) ∙ sym (parts tomb rest)

-- ---- a list is read in one way

same_split : (xs ys r s : List ℕ) → length xs ≡ length ys → xs ++ r ≡ ys ++ s → (xs ≡ ys) × (r ≡ s)
same_split [] [] r s l e = (refl, e)
same_split [] (y ∷ ys) r s l e = absurd (omega arith)
same_split (x ∷ xs) [] r s l e = absurd (omega arith)
same_split (x ∷ xs) (y ∷ ys) r s l e =
    let rest : xs ++ r ≡ ys ++ s = cc in
    let head : x ≡ y = cc in
    let both = same_split xs ys r s (omega arith) rest in
    (cc (head, both.0), both.1)

same_parts : (x y : Tomb) → x.key ≡ y.key → x.range.from ≡ y.range.from → x.range.to ≡ y.range.to → x ≡ y
same_parts x y key from to = λ i. record { key = key i; range = record { from = from i; to = to i } }

pub same_tomb : (x y : Tomb) (r s : List ℕ) → IsWritable x → IsWritable y → tomb_bytes x ++ r ≡ tomb_bytes y ++ s → (x ≡ y) × (r ≡ s)
same_tomb x y r s w v e =
    let len = same_u32 (length x.key) (length y.key) (x.key ++ (bytes_of_i64 x.range.from ++ (bytes_of_i64 x.range.to ++ r))) (y.key ++ (bytes_of_i64 y.range.from ++ (bytes_of_i64 y.range.to ++ s)))
    w.key v.key (sym (parts x r) ∙ e ∙ parts y s) in
    let key = same_split x.key y.key (bytes_of_i64 x.range.from ++ (bytes_of_i64 x.range.to ++ r)) (bytes_of_i64 y.range.from ++ (bytes_of_i64 y.range.to ++ s)) len.0 len.1 in
    let from = same_i64 x.range.from y.range.from (bytes_of_i64 x.range.to ++ r) (bytes_of_i64 y.range.to ++ s) w.from v.from key.1 in
    let to = same_i64 x.range.to y.range.to r s w.to v.to from.1 in
    (same_parts x y key.0 from.0 to.0, to.1)

pub same_reading : (xs ys : List Tomb) (r s : List ℕ) → AllByRecursion IsWritable xs → AllByRecursion IsWritable ys → BeginsNone r → BeginsNone s
    → flat_map tomb_bytes xs ++ r ≡ flat_map tomb_bytes ys ++ s → (xs ≡ ys) × (r ≡ s)
same_reading [] [] r s a b n m e = (refl, e)
same_reading [] (y ∷ ys) r s a b n m e = absurd (n y (flat_map tomb_bytes ys ++ s) b.0 (e ∙ append_assoc (tomb_bytes y) (flat_map tomb_bytes ys) s))
same_reading (x ∷ xs) [] r s a b n m e = absurd (m x (flat_map tomb_bytes xs ++ r) a.0 (sym e ∙ append_assoc (tomb_bytes x) (flat_map tomb_bytes xs) r))
same_reading (x ∷ xs) (y ∷ ys) r s a b n m e =
    let first = same_tomb x y (flat_map tomb_bytes xs ++ r) (flat_map tomb_bytes ys ++ s) a.0 b.0
    (sym (append_assoc (tomb_bytes x) (flat_map tomb_bytes xs) r) ∙ e ∙ append_assoc (tomb_bytes y) (flat_map tomb_bytes ys) s) in
    let others = same_reading xs ys r s a.1 b.1 n m first.1 in
    (cc (first.0, others.0), others.1)
