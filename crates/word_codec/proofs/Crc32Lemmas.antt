-- Long division, bit by bit and byte by byte.
use Rattle.std.proofs.Common.{◌≡◌, ℕ, zero, suc, ◌+◌, ◌-◌, ◌*◌, ◌/◌, ◌%◌, ◌^◌, ◌<◌, ◌≤◌, List, [], ◌∷◌, ◌++◌, length, map, take, drop, get_or, ◌⊎◌, inl, inr, cond, eqb, replicate, add-one, refl, sym, ◌∙◌, ap, arith}
use Rattle.std.specs.Prelude.{bit_xor, bit_and}
use Rattle.std.proofs.lemmas.Nat.{and_mask, xor_shr, xor_comm, mod-pow-add}
use Rattle.std.proofs.lemmas.Nat.Bits.{bit_at_xor}
use Rattle.std.proofs.Math.Nat.{pow-suc}
use Rattle.std.proofs.lemmas.Bool.{cases_lt}
use Rattle.std.proofs.lemmas.List.{at_drop_more, at_drop_all, take-append-drop, get_or-map, length-map}
use Rattle.std.proofs.lemmas.List.FromFn.{get_or-map-range_with_len, length-range_with_len}
use Rattle.std.specs.List.{range_with_len}
use Rattle.word_codec.specs.declared.remainders.TheConstants.{REMAINDERS}
use Rattle.std.proofs.lemmas.List.Concat.{flat_map-append}
use Rattle.std.specs.Int.{from_le_bytes, w64}
use lib.Bits.{xor_add_and, xor_assoc, xor_self, xor_zero_r, xor_shifted}
use Rattle.word_codec.specs.Crc32.{remainder_of, divided, low_bits, bits_of}

-- to complement is to flip all bits
pub flipped : (n : ℕ) → n < 2 ^ 32 → 2 ^ 32 - 1 - n ≡ bit_xor n 0xFFFF_FFFF
flipped n small =
    let sum = xor_add_and n 0xFFFF_FFFF in
    let low : bit_and n 0xFFFF_FFFF ≡ n % 2 ^ 32 = and_mask n 32 in
    omega (arith, sum, low)

remainder_append : (start : ℕ) (bits more : List ℕ) → remainder_of start (bits ++ more) ≡ remainder_of (remainder_of start bits) more
unfolding remainder_of
remainder_append start [] more = refl
remainder_append start (bit ∷ bits) more = remainder_append (divided start bit) bits more

pub next_byte : (text : List ℕ) (index start : ℕ) → index < length text → remainder_of start (bits_of (drop index text)) ≡ remainder_of (remainder_of start (low_bits 8 (get_or text index 0))) (bits_of (drop (index + 1) text))
unfolding remainder_of
next_byte text index start lt =
    at_drop_more (λ rest. remainder_of start (bits_of rest)) text index 0 lt
    ∙ remainder_append start (low_bits 8 (get_or text index 0)) (bits_of (drop (index + 1) text))

pub whole_text : (text : List ℕ) (index remainder start : ℕ) → length text ≤ index → remainder_of remainder (bits_of (drop index text)) ≡ remainder_of start (bits_of text) → remainder ≡ remainder_of start (bits_of text)
unfolding remainder_of
whole_text text index remainder start all is = sym (at_drop_all (λ rest. remainder_of remainder (bits_of rest)) text index all) ∙ is

-- the remainder after so many bits of 0
abbrev pub shifted : ℕ → ℕ → ℕ
shifted count remainder = remainder_of remainder (replicate count 0)

odd_or_even : (n : ℕ) → (n % 2 ≡ 0) ⊎ (n % 2 ≡ 1)
odd_or_even n = elim (cases_lt (n % 2) 1) [ inl small ↦ inl (omega arith) | inr large ↦ inr (omega arith) ]

divided_even : (remainder bit : ℕ) → (remainder + bit) % 2 ≡ 0 → divided remainder bit ≡ remainder / 2
divided_even remainder bit even = ap (λ n. cond (eqb n 0) (remainder / 2) (bit_xor (remainder / 2) 0xEDB8_8320)) even

divided_odd : (remainder bit : ℕ) → (remainder + bit) % 2 ≡ 1 → divided remainder bit ≡ bit_xor (remainder / 2) 0xEDB8_8320
divided_odd remainder bit odd = ap (λ n. cond (eqb n 0) (remainder / 2) (bit_xor (remainder / 2) 0xEDB8_8320)) odd

xor_half : (a b : ℕ) → bit_xor a b / 2 ≡ bit_xor (a / 2) (b / 2)
xor_half a b = xor_shr a b 1

xor_parity : (a b : ℕ) → bit_xor a b % 2 ≡ (a + b) % 2
xor_parity a b = omega (arith, bit_at_xor a b 0)

-- a bit and what comes behind it may be added before the division
divided_xor : (a b : ℕ) → divided (bit_xor a b) 0 ≡ bit_xor (divided a (b % 2)) (b / 2)
divided_xor a b = elim (odd_or_even (a + b)) [
  | inl even ↦
      divided_even (bit_xor a b) 0 (omega (arith, xor_parity a b, even)) ∙ xor_half a b
      ∙ ap (λ n. bit_xor n (b / 2)) (sym (divided_even a (b % 2) (omega (arith, even))))
  | inr odd ↦
      divided_odd (bit_xor a b) 0 (omega (arith, xor_parity a b, odd)) ∙ ap (λ n. bit_xor n 0xEDB8_8320) (xor_half a b)
      ∙ xor_assoc (a / 2) (b / 2) 0xEDB8_8320 ∙ ap (bit_xor (a / 2)) (xor_comm (b / 2) 0xEDB8_8320) ∙ sym (xor_assoc (a / 2) 0xEDB8_8320 (b / 2))
      ∙ ap (λ n. bit_xor n (b / 2)) (sym (divided_odd a (b % 2) (omega (arith, odd))))
]

divided_one : (a : ℕ) → divided a 1 ≡ bit_xor (divided a 0) 0xEDB8_8320
divided_one a = elim (odd_or_even a) [
  | inl even ↦ divided_odd a 1 (omega (arith, even)) ∙ ap (λ n. bit_xor n 0xEDB8_8320) (sym (divided_even a 0 (omega (arith, even))))
  | inr odd ↦
      divided_even a 1 (omega (arith, odd))
      ∙ sym (xor_zero_r (a / 2)) ∙ sym (ap (bit_xor (a / 2)) (xor_self 0xEDB8_8320)) ∙ sym (xor_assoc (a / 2) 0xEDB8_8320 0xEDB8_8320)
      ∙ ap (λ n. bit_xor n 0xEDB8_8320) (sym (divided_odd a 0 (omega (arith, odd))))
]

-- the remainder of a sum is the sum of the remainders
divided_sum : (a b : ℕ) → divided (bit_xor a b) 0 ≡ bit_xor (divided a 0) (divided b 0)
divided_sum a b = divided_xor a b ∙ elim (odd_or_even b) [
  | inl even ↦ ap (λ bit. bit_xor (divided a bit) (b / 2)) even ∙ ap (bit_xor (divided a 0)) (sym (divided_even b 0 (omega (arith, even))))
  | inr odd ↦
      ap (λ bit. bit_xor (divided a bit) (b / 2)) odd ∙ ap (λ n. bit_xor n (b / 2)) (divided_one a)
      ∙ xor_assoc (divided a 0) 0xEDB8_8320 (b / 2) ∙ ap (bit_xor (divided a 0)) (xor_comm 0xEDB8_8320 (b / 2))
      ∙ ap (bit_xor (divided a 0)) (sym (divided_odd b 0 (omega (arith, odd))))
]

shifted_sum : (count a b : ℕ) → shifted count (bit_xor a b) ≡ bit_xor (shifted count a) (shifted count b)
unfolding remainder_of
shifted_sum zero a b = refl
shifted_sum (suc count) a b = ap (shifted count) (divided_sum a b) ∙ shifted_sum count (divided a 0) (divided b 0)

-- bits of 0 do nothing but shift
divided_double : (n : ℕ) → divided (n * 2) 0 ≡ n
divided_double n = let half : n * 2 / 2 ≡ n = omega arith in divided_even (n * 2) 0 (omega arith) ∙ half

shifted_back : (count more n : ℕ) → shifted (count + more) (n * 2 ^ count) ≡ shifted more n
unfolding remainder_of
shifted_back zero more n =
    let none : zero + more ≡ more = omega arith in
    let same : n * 2 ^ zero ≡ n = omega arith in
    ap (λ k. shifted k (n * 2 ^ zero)) none ∙ ap (shifted more) same
shifted_back (suc count) more n =
    let first : suc count + more ≡ suc (count + more) = omega arith in
    let twice : n * 2 ^ suc count ≡ n * 2 ^ count * 2 = omega (arith, ap (λ p. n * p) (pow-suc 2 count)) in
    ap (λ k. shifted k (n * 2 ^ suc count)) first
    ∙ ap (λ m. shifted (count + more) (divided m 0)) twice
    ∙ ap (shifted (count + more)) (divided_double (n * 2 ^ count))
    ∙ shifted_back count more n

shifted_add : (count more n : ℕ) → shifted more (shifted count n) ≡ shifted (count + more) n
unfolding remainder_of
shifted_add zero more n = let none : more ≡ zero + more = omega arith in ap (λ k. shifted k n) none
shifted_add (suc count) more n =
    let first : suc (count + more) ≡ suc count + more = omega arith in
    shifted_add count more (divided n 0) ∙ ap (λ k. shifted k n) first

-- so many bits of a number may be added before the division
bits_added : (count start n : ℕ) → remainder_of start (low_bits count n) ≡ shifted count (bit_xor start (n % 2 ^ count))
unfolding low_bits remainder_of
bits_added zero start n =
    let none : n % 2 ^ zero ≡ 0 = omega arith in sym (xor_zero_r start) ∙ ap (bit_xor start) (sym none)
bits_added (suc count) start n =
    let low = n % 2 ^ suc count in
    let parts : low ≡ (n / 2 % 2 ^ count) * 2 + n % 2 = ap (λ k. n % 2 ^ k) (sym (add-one count)) ∙ mod-pow-add n count 1 in
    let bit : low % 2 ≡ n % 2 = omega (arith, parts) in
    let rest : low / 2 ≡ n / 2 % 2 ^ count = omega (arith, parts) in
    bits_added count (divided start (n % 2)) (n / 2)
    ∙ ap (λ b. shifted count (bit_xor (divided start b) (n / 2 % 2 ^ count))) (sym bit)
    ∙ ap (λ r. shifted count (bit_xor (divided start (low % 2)) r)) (sym rest)
    ∙ ap (shifted count) (sym (divided_xor start low))

low_bits_append : (count more low high : ℕ) → low < 2 ^ count → low_bits (count + more) (low + 2 ^ count * high) ≡ low_bits count low ++ low_bits more high
unfolding low_bits
low_bits_append zero more low high small =
    let none : zero + more ≡ more = omega arith in
    let same : low + 2 ^ zero * high ≡ high = omega arith in
    ap (λ k. low_bits k (low + 2 ^ zero * high)) none ∙ ap (low_bits more) same
low_bits_append (suc count) more low high small =
    let first : suc count + more ≡ suc (count + more) = omega arith in
    let double : 2 ^ suc count * high ≡ 2 * (2 ^ count * high) = omega (arith, ap (λ p. p * high) (pow-suc 2 count)) in
    let n = low + 2 ^ suc count * high in
    let bit : n % 2 ≡ low % 2 = omega (arith, double) in
    let rest : n / 2 ≡ low / 2 + 2 ^ count * high = omega (arith, double) in
    let half : low / 2 < 2 ^ count = omega (arith, pow-suc 2 count) in
    ap (λ k. low_bits k n) first
    ∙ ap (λ b. b ∷ low_bits (count + more) (n / 2)) bit
    ∙ ap (λ r. low % 2 ∷ low_bits (count + more) r) rest
    ∙ ap (λ bits. low % 2 ∷ bits) (low_bits_append count more (low / 2) high half)

-- bytes as one number, the lowest first
abbrev pub number_of : List ℕ → ℕ
number_of [] = 0
number_of (byte ∷ bytes) = byte + 256 * number_of bytes

abbrev pub AreBytes : List ℕ → Type 0
AreBytes [] = Unit {0}
AreBytes (byte ∷ bytes) = (byte < 256) × AreBytes bytes

number_bits : (bytes : List ℕ) → AreBytes bytes → bits_of bytes ≡ low_bits (8 * length bytes) (number_of bytes)
unfolding low_bits
number_bits [] small = refl
number_bits (byte ∷ bytes) small =
    let more : 8 * suc (length bytes) ≡ 8 + 8 * length bytes = omega arith in
    ap (λ bits. low_bits 8 byte ++ bits) (number_bits bytes small.1)
    ∙ sym (low_bits_append 8 (8 * length bytes) byte (number_of bytes) (omega (arith, small.0)))
    ∙ ap (λ k. low_bits k (byte + 256 * number_of bytes)) (sym more)

-- the eight bytes of a word
word_of : (bytes : List ℕ) → length bytes ≡ 8 → from_le_bytes w64 bytes ≡ number_of bytes
word_of bytes eight =
    let at = λ (i : ℕ) (lt : i < length bytes). at_drop_more number_of bytes i 0 lt in
    omega (arith, at 0 (omega arith), at 1 (omega arith), at 2 (omega arith), at 3 (omega arith), at 4 (omega arith), at 5 (omega arith), at 6 (omega arith), at 7 (omega arith), at_drop_all number_of bytes 8 (omega arith))

are_bytes : (bytes : List ℕ) → ((i : ℕ) → get_or bytes i 0 < 256) → AreBytes bytes
are_bytes [] small = tt
are_bytes (byte ∷ bytes) small = (small 0, are_bytes bytes (λ i. small (suc i)))

-- the lowest byte of a sum goes its own way
split : (more n : ℕ) → shifted (8 + more) n ≡ bit_xor (shifted (8 + more) (n % 256)) (shifted more (n / 256))
split more n =
    let parts : n ≡ bit_xor (n % 256) (n / 256 * 2 ^ 8) = sum_of_parts n in
    ap (shifted (8 + more)) parts ∙ shifted_sum (8 + more) (n % 256) (n / 256 * 2 ^ 8)
    ∙ ap (bit_xor (shifted (8 + more) (n % 256))) (shifted_back 8 more (n / 256))
  where
    sum_of_parts : (n : ℕ) → n ≡ bit_xor (n % 256) (n / 256 * 2 ^ 8)
    sum_of_parts n = let whole : n ≡ n / 256 * 2 ^ 8 + n % 256 = omega arith in
        whole ∙ sym (xor_shifted (n / 256) 8 (n % 256) (omega arith)) ∙ xor_comm (n / 256 * 2 ^ 8) (n % 256)

split_after : (before more n : ℕ) → bit_xor before (shifted (8 + more) n) ≡ bit_xor (bit_xor before (shifted (8 + more) (n % 256))) (shifted more (n / 256))
split_after before more n = ap (bit_xor before) (split more n) ∙ sym (xor_assoc before (shifted (8 + more) (n % 256)) (shifted more (n / 256)))

-- a word of 64 bits, byte by byte
pub by_bytes : (n a b c d e f g h : ℕ) → n < 2 ^ 64 → a ≡ shifted 64 (n % 256) → b ≡ shifted 56 (n / 256 % 256) → c ≡ shifted 48 (n / 65536 % 256) → d ≡ shifted 40 (n / 16777216 % 256)
    → e ≡ shifted 32 (n / 4294967296 % 256) → f ≡ shifted 24 (n / 1099511627776 % 256) → g ≡ shifted 16 (n / 281474976710656 % 256) → h ≡ shifted 8 (n / 72057594037927936 % 256)
    → bit_xor (bit_xor (bit_xor (bit_xor (bit_xor (bit_xor (bit_xor a b) c) d) e) f) g) h ≡ shifted 64 n
by_bytes n a b c d e f g h small a_is b_is c_is d_is e_is f_is g_is h_is =
    let n1 = n / 256 in
    let n2 = n1 / 256 in
    let n3 = n2 / 256 in
    let n4 = n3 / 256 in
    let n5 = n4 / 256 in
    let n6 = n5 / 256 in
    let n7 = n6 / 256 in
    let c' : n / 65536 % 256 ≡ n2 % 256 = omega arith in
    let d' : n / 16777216 % 256 ≡ n3 % 256 = omega arith in
    let e' : n / 4294967296 % 256 ≡ n4 % 256 = omega arith in
    let f' : n / 1099511627776 % 256 ≡ n5 % 256 = omega arith in
    let g' : n / 281474976710656 % 256 ≡ n6 % 256 = omega arith in
    let h' : n / 72057594037927936 % 256 ≡ n7 = omega arith in
    sym (
    split 56 n ∙ ap (λ x. bit_xor x (shifted 56 n1)) (sym a_is)
    ∙ split_after a 48 n1 ∙ ap (λ x. bit_xor (bit_xor a x) (shifted 48 n2)) (sym b_is)
    ∙ split_after (bit_xor a b) 40 n2 ∙ ap (λ x. bit_xor (bit_xor (bit_xor a b) x) (shifted 40 n3)) (sym (c_is ∙ ap (shifted 48) c'))
    ∙ split_after _ 32 n3 ∙ ap (λ x. bit_xor (bit_xor (bit_xor (bit_xor a b) c) x) (shifted 32 n4)) (sym (d_is ∙ ap (shifted 40) d'))
    ∙ split_after _ 24 n4 ∙ ap (λ x. bit_xor (bit_xor (bit_xor (bit_xor (bit_xor a b) c) d) x) (shifted 24 n5)) (sym (e_is ∙ ap (shifted 32) e'))
    ∙ split_after _ 16 n5 ∙ ap (λ x. bit_xor (bit_xor (bit_xor (bit_xor (bit_xor (bit_xor a b) c) d) e) x) (shifted 16 n6)) (sym (f_is ∙ ap (shifted 24) f'))
    ∙ split_after _ 8 n6 ∙ ap (λ x. bit_xor (bit_xor (bit_xor (bit_xor (bit_xor (bit_xor (bit_xor a b) c) d) e) f) x) (shifted 8 n7)) (sym (g_is ∙ ap (shifted 16) g'))
    ∙ ap (bit_xor (bit_xor (bit_xor (bit_xor (bit_xor (bit_xor (bit_xor a b) c) d) e) f) g)) (sym (h_is ∙ ap (shifted 8) h'))
    )

-- the eight bytes of a word are added before the division
pub eight_bytes : (bytes : List ℕ) (start word : ℕ) → length bytes ≡ 8 → ((i : ℕ) → get_or bytes i 0 < 256) → word ≡ from_le_bytes w64 bytes → word < 2 ^ 64 → remainder_of start (bits_of bytes) ≡ shifted 64 (bit_xor word start)
eight_bytes bytes start word eight small is fits =
    let number : number_of bytes ≡ word = sym (is ∙ word_of bytes eight) in
    let bits : bits_of bytes ≡ low_bits 64 word = number_bits bytes (are_bytes bytes small) ∙ ap (λ k. low_bits (8 * k) (number_of bytes)) eight ∙ ap (low_bits 64) number in
    let whole : word % 2 ^ 64 ≡ word = omega arith in
    ap (remainder_of start) bits ∙ bits_added 64 start word
    ∙ ap (λ n. shifted 64 (bit_xor start n)) whole ∙ ap (shifted 64) (xor_comm start word)

pub one_byte : (start byte : ℕ) → byte < 256 → remainder_of start (low_bits 8 byte) ≡ bit_xor (shifted 8 (bit_xor start byte % 256)) (start / 256)
unfolding remainder_of
one_byte start byte small =
    let whole : byte % 2 ^ 8 ≡ byte = omega arith in
    let none : byte / 256 ≡ 0 = omega arith in
    let high : bit_xor start byte / 256 ≡ start / 256 = xor_shr start byte 8 ∙ ap (bit_xor (start / 256)) none ∙ xor_zero_r (start / 256) in
    bits_added 8 start byte ∙ ap (λ n. shifted 8 (bit_xor start n)) whole
    ∙ split 0 (bit_xor start byte) ∙ ap (bit_xor (shifted 8 (bit_xor start byte % 256))) high

pub first_eight : (text : List ℕ) (start : ℕ) → remainder_of start (bits_of text) ≡ remainder_of (remainder_of start (bits_of (take 8 text))) (bits_of (drop 8 text))
first_eight text start =
    ap (λ whole. remainder_of start (bits_of whole)) (sym (take-append-drop 8 text))
    ∙ ap (remainder_of start) (flat_map-append (low_bits 8) (take 8 text) (drop 8 text))
    ∙ remainder_append start (bits_of (take 8 text)) (bits_of (drop 8 text))

-- each row of a table has what eight more bits of 0 leave of the row before
rows : ℕ → List ℕ → List (List ℕ)
rows zero row = []
rows (suc more) row = row ∷ rows more (map (shifted 8) row)

row_at : (count place : ℕ) (row : List ℕ) (byte value : ℕ) → place < count → byte < length row → get_or row byte 0 ≡ value → get_or (get_or (rows count row) place []) byte 0 ≡ shifted (8 * place) value
unfolding rows remainder_of
row_at zero place row byte value lt within is = absurd (omega arith)
row_at (suc count) zero row byte value lt within is = is
row_at (suc count) (suc place) row byte value lt within is =
    let more : 8 + 8 * place ≡ 8 * suc place = omega arith in
    row_at count place (map (shifted 8) row) byte (shifted 8 value) (omega arith) (omega (arith, length-map row (shifted 8)))
    (get_or-map (shifted 8) row byte 0 0 within ∙ ap (shifted 8) is)
    ∙ shifted_add 8 (8 * place) value
    ∙ ap (λ k. shifted k value) more

remainders_are : REMAINDERS ≡ rows 8 (map (shifted 8) (range_with_len 0 256))
unfolding rows remainder_of
remainders_are = refl

-- each entry of the table is what it should be
pub entry : (place byte : ℕ) → place < 8 → byte < 256 → get_or (get_or REMAINDERS place []) byte 0 ≡ shifted (8 * place + 8) byte
entry place byte lt small =
    let more : 8 + 8 * place ≡ 8 * place + 8 = omega arith in
    ap (λ table. get_or (get_or table place []) byte 0) remainders_are
    ∙ row_at 8 place (map (shifted 8) (range_with_len 0 256)) byte (shifted 8 byte) lt
    (omega (arith, length-map (range_with_len 0 256) (shifted 8), length-range_with_len 0 256))
    (get_or-map-range_with_len (shifted 8) 0 256 byte byte 0 small (omega arith))
    ∙ shifted_add 8 (8 * place) byte
    ∙ ap (λ k. shifted k byte) more
