-- Values side by side, and what is read back.
use Rattle.std.proofs.Common.{◌≡◌, ℕ, suc, zero, ◌+◌, ◌*◌, ◌/◌, ◌%◌, ◌^◌, ◌<◌, ◌≤◌, List, [], ◌∷◌, length, get_or, drop, bit_or, All, sym, ◌∙◌, ap, refl, arith}
use Rattle.std.proofs.lemmas.Nat.{pow_pos, pow-add, mod-pow-add, mod_below, div-mul-add, mod-mul-add, mul-add-lt, shl_whole, mul-le}
use Rattle.std.specs.Int.Bits.{or_shifted_r}
use Rattle.std.proofs.lemmas.List.{at_drop_more}
use Rattle.std.proofs.lemmas.List.Elements.{All-head, All-tail, All-nil, All-cons}
use Rattle.std.proofs.Math.Nat.{mul-suc, mul-zero, mul_comm, mul-add}
use Rattle.simple8b.specs.Words.{packed}
use Rattle.simple8b.specs.Unpacked.{unpacked}

pub packed-nil : (bits : ℕ) → packed bits [] ≡ 0
unfolding packed
packed-nil bits = refl

pub packed-cons : (bits value : ℕ) (values : List ℕ) → packed bits (value ∷ values) ≡ value + 2 ^ bits * packed bits values
unfolding packed
packed-cons bits value values = refl

pub unpacked-suc : (bits count word : ℕ) → unpacked bits (suc count) word ≡ word % 2 ^ bits ∷ unpacked bits count (word / 2 ^ bits)
unfolding unpacked
unpacked-suc bits count word = refl

-- 2 to the bits of one more value
pow_more : (bits n : ℕ) → 2 ^ (bits * suc n) ≡ 2 ^ bits * 2 ^ (bits * n)
pow_more bits n = ap (λ (e : ℕ). 2 ^ e) (mul-suc bits n) ∙ pow-add 2 (bits * n) bits ∙ mul_comm (2 ^ (bits * n)) (2 ^ bits)

pub packed-lt : (bits : ℕ) (values : List ℕ) → All (λ value. value < 2 ^ bits) values → packed bits values < 2 ^ (bits * length values)
unfolding packed
packed-lt bits [] narrow = pow_pos (bits * 0)
packed-lt bits (value ∷ values) narrow =
    let head : value < 2 ^ bits = All-head (λ v. v < 2 ^ bits) value values narrow in
    let tail : packed bits values < 2 ^ (bits * length values) = packed-lt bits values (All-tail (λ v. v < 2 ^ bits) value values narrow) in
    let room : packed bits values * 2 ^ bits + value < 2 ^ bits * 2 ^ (bits * length values) = mul-add-lt (packed bits values) (2 ^ bits) value (2 ^ (bits * length values)) tail head in
    omega (arith, room, pow_more bits (length values), mul_comm (packed bits values) (2 ^ bits))

pub length-unpacked : (bits count word : ℕ) → length (unpacked bits count word) ≡ count
unfolding unpacked
length-unpacked bits zero word = refl
length-unpacked bits (suc count) word = ap suc (length-unpacked bits count (word / 2 ^ bits))

pub unpacked-narrow : (bits count word : ℕ) → All (λ value. value < 2 ^ bits) (unpacked bits count word)
unfolding unpacked
unpacked-narrow bits zero word = All-nil (λ value. value < 2 ^ bits)
unpacked-narrow bits (suc count) word = All-cons (λ value. value < 2 ^ bits) (word % 2 ^ bits) (unpacked bits count (word / 2 ^ bits)) (mod_below word (2 ^ bits) (pow_pos bits)) (unpacked-narrow bits count (word / 2 ^ bits))

-- what is read of values side by side, whatever stands above them
pub unpacked-packed : (bits : ℕ) (values : List ℕ) (above : ℕ) → All (λ value. value < 2 ^ bits) values → unpacked bits (length values) (packed bits values + 2 ^ (bits * length values) * above) ≡ values
unfolding packed unpacked
unpacked-packed bits [] above narrow = refl
unpacked-packed bits (value ∷ values) above narrow =
    let head : value < 2 ^ bits = All-head (λ v. v < 2 ^ bits) value values narrow in
    let behind : ℕ = packed bits values + 2 ^ (bits * length values) * above in
    let split : value + 2 ^ bits * packed bits values + 2 ^ (bits * suc (length values)) * above ≡ behind * 2 ^ bits + value =
    ap (λ (p : ℕ). value + 2 ^ bits * packed bits values + p * above) (pow_more bits (length values))
    ∙ regroup value (2 ^ bits) (packed bits values) (2 ^ (bits * length values)) above in
    let low : (behind * 2 ^ bits + value) % 2 ^ bits ≡ value = mod-mul-add behind (2 ^ bits) value head in
    let high : (behind * 2 ^ bits + value) / 2 ^ bits ≡ behind = div-mul-add behind (2 ^ bits) value head in
    ap (λ (word : ℕ). word % 2 ^ bits ∷ unpacked bits (length values) (word / 2 ^ bits)) split
    ∙ ap (λ (v : ℕ). v ∷ unpacked bits (length values) ((behind * 2 ^ bits + value) / 2 ^ bits)) low
    ∙ ap (λ (w : ℕ). value ∷ unpacked bits (length values) w) high
    ∙ ap (λ (vs : List ℕ). value ∷ vs) (unpacked-packed bits values above (All-tail (λ v. v < 2 ^ bits) value values narrow))
  where
    regroup : (v m p q a : ℕ) → v + m * p + m * q * a ≡ (p + q * a) * m + v
    regroup v m p q a = omega arith

one_left : (n : ℕ) → n % 1 ≡ 0
one_left n = omega arith

-- the numbers that are read, side by side again
pub packed-unpacked : (bits count word : ℕ) → packed bits (unpacked bits count word) ≡ word % 2 ^ (bits * count)
unfolding packed unpacked
packed-unpacked bits zero word = sym (ap (λ (e : ℕ). word % 2 ^ e) (mul-zero bits) ∙ one_left word)
packed-unpacked bits (suc count) word =
    ap (λ (p : ℕ). word % 2 ^ bits + 2 ^ bits * p) (packed-unpacked bits count (word / 2 ^ bits))
    ∙ omega (arith, mod-pow-add word (bits * count) bits, mul_comm (2 ^ bits) (word / 2 ^ bits % 2 ^ (bits * count)), ap (λ (e : ℕ). word % 2 ^ e) (mul-suc bits count))

pub unpacked-zero : (bits word : ℕ) → unpacked bits 0 word ≡ []
unfolding unpacked
unpacked-zero bits word = refl

-- one more value above those that are packed
pub pack_more : (word shift bits value index : ℕ) (values : List ℕ) → word < 2 ^ shift → value < 2 ^ bits → shift + bits ≤ 60 → index < length values → value ≡ get_or values index 0 → word + 2 ^ shift * packed bits (drop index values) ≡ packed bits values → (bit_or word (value * 2 ^ shift % 2 ^ 64) + 2 ^ (shift + bits) * packed bits (drop (index + 1) values) ≡ packed bits values) × (bit_or word (value * 2 ^ shift % 2 ^ 64) < 2 ^ (shift + bits))
pack_more word shift bits value index values within narrow room below is packed-before =
    let whole : value * 2 ^ shift % 2 ^ 64 ≡ value * 2 ^ shift = shl_whole value bits shift 64 narrow (omega arith) in
    let joined : bit_or word (value * 2 ^ shift % 2 ^ 64) ≡ value * 2 ^ shift + word = ap (bit_or word) whole ∙ or_shifted_r value shift word within in
    let first : packed bits (drop index values) ≡ value + 2 ^ bits * packed bits (drop (index + 1) values) =
    at_drop_more (packed bits) values index 0 below ∙ packed-cons bits (get_or values index 0) (drop (index + 1) values) ∙ ap (λ (v : ℕ). v + 2 ^ bits * packed bits (drop (index + 1) values)) (sym is) in
    let power : 2 ^ (shift + bits) ≡ 2 ^ shift * 2 ^ bits = pow-add 2 shift bits in (
      ap (λ (n : ℕ). n + 2 ^ (shift + bits) * packed bits (drop (index + 1) values)) joined
          ∙ ap (λ (n : ℕ). value * 2 ^ shift + word + n * packed bits (drop (index + 1) values)) power
          ∙ regroup value word (2 ^ shift) (2 ^ bits) (packed bits (drop (index + 1) values))
          ∙ ap (λ (n : ℕ). word + 2 ^ shift * n) (sym first)
          ∙ packed-before,
      omega (arith, joined, power, mul-add-lt value (2 ^ shift) word (2 ^ bits) narrow within),
    )
  where
    regroup : (v w s b p : ℕ) → v * s + w + s * b * p ≡ w + s * (v + b * p)
    regroup v w s b p = omega arith

-- the place of one more value is within what all of them take
pub room_more : (bits index count : ℕ) → index < count → bits * count ≤ 60 → bits * index + bits ≤ 60
room_more bits index count below room = omega (arith, mul-le bits (index + 1) bits count (omega arith) (omega arith), mul-add bits index 1)
