-- Which bytes a number of a fixed width has: the highest first.
use Rattle.std.specs.Prelude.{ℕ, ℤ, List}
use Rattle.std.specs.Int.{w64, cast_unsigned}
use Rattle.byteorder.specs.Endian.{big_bytes}

-- the two bytes of a number below 2 ^ 16
unfoldable pub bytes_of_u16 : ℕ → List ℕ
bytes_of_u16 number = big_bytes 2 number

-- the four bytes of a number below 2 ^ 32
unfoldable pub bytes_of_u32 : ℕ → List ℕ
bytes_of_u32 number = big_bytes 4 number

-- the eight bytes of a number below 2 ^ 64
unfoldable pub bytes_of_u64 : ℕ → List ℕ
bytes_of_u64 number = big_bytes 8 number

-- the eight bytes of the two's complement of a signed number of 64 bits
unfoldable pub bytes_of_i64 : ℤ → List ℕ
bytes_of_i64 number = big_bytes 8 (cast_unsigned w64 number)
