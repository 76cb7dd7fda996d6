-- A checksum has 32 bits.
use Rattle.std.proofs.Common.{ℕ, ◌+◌, ◌/◌, ◌%◌, ◌^◌, ◌<◌, ◌==◌, Bool, true, false, List, [], ◌∷◌, if◌then◌else◌, bit_xor, arith}
use Rattle.std.proofs.lemmas.Nat.{xor_lt}
use Rattle.word_codec.specs.Crc32.{bits_of, crc32_of, divided, remainder_of}

divided_fits : (remainder bit : ℕ) → remainder < 2 ^ 32 → divided remainder bit < 2 ^ 32
divided_fits remainder bit fits = by ((remainder + bit) % 2 == 0)
  where
    by : (even : Bool) → (if even then remainder / 2 else bit_xor (remainder / 2) 0xEDB8_8320) < 2 ^ 32
    by true = omega (arith, fits)
    by false = xor_lt 32 (remainder / 2) 0xEDB8_8320 (omega (arith, fits)) (omega arith)

remainder_fits : (remainder : ℕ) (bits : List ℕ) → remainder < 2 ^ 32 → remainder_of remainder bits < 2 ^ 32
unfolding remainder_of
remainder_fits remainder [] fits = fits
remainder_fits remainder (bit ∷ bits) fits = remainder_fits (divided remainder bit) bits (divided_fits remainder bit fits)

pub crc32_fits : (text : List ℕ) → crc32_of text < 2 ^ 32
unfolding crc32_of
crc32_fits text = xor_lt 32 (remainder_of 0xFFFF_FFFF (bits_of text)) 0xFFFF_FFFF (remainder_fits 0xFFFF_FFFF (bits_of text) (omega arith)) (omega arith)
