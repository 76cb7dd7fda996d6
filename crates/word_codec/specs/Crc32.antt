-- What the checksum of a text is.
use Rattle.std.specs.Prelude.{ℕ, zero, suc, ◌+◌, ◌/◌, ◌%◌, List, [], ◌∷◌, bit_xor, ◌==◌, if◌then◌else◌}
use Rattle.std.specs.List.{flat_map}

-- the lowest bits of a number, the lowest first
unfoldable pub low_bits : ℕ → ℕ → List ℕ
low_bits zero number = []
low_bits (suc count) number = number % 2 ∷ low_bits count (number / 2)

-- the bits of a text: byte after byte, the lowest bit of each first
abbrev pub bits_of : List ℕ → List ℕ
bits_of text = flat_map (low_bits 8) text

-- the remainder after one more bit of the dividend. A remainder's lowest bit is the coefficient of x^31, its
-- highest that of 1, and 0xEDB88320 is the divisor without its x^32 in that order.
abbrev pub divided : ℕ → ℕ → ℕ
divided remainder bit =
    if (remainder + bit) % 2 == 0 then remainder / 2 else bit_xor (remainder / 2) 0xEDB8_8320

-- the remainder of the long division, bit by bit, that begins with a remainder
unfoldable pub remainder_of : ℕ → List ℕ → ℕ
remainder_of start [] = start
remainder_of start (bit ∷ bits) = remainder_of (divided start bit) bits

-- it begins with ones, and the remainder of the whole text is complemented
unfoldable pub crc32_of : List ℕ → ℕ
crc32_of text = bit_xor (remainder_of 0xFFFF_FFFF (bits_of text)) 0xFFFF_FFFF
