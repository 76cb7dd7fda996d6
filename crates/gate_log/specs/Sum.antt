-- The checksum of a record.
use Rattle.std.specs.Prelude.{ℕ, List}
use Rattle.word_codec.specs.Crc32.{crc32_of}

-- CRC32 of its body
abbrev pub checksum_of : List ℕ → ℕ
checksum_of bytes = crc32_of bytes
