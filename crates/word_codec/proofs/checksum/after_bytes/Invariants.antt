use Rattle.std.proofs.Common.{◌≡◌, drop}
use Rattle.word_codec.specs.Crc32.{remainder_of, bits_of}
use Rattle.word_codec.proofs.checksum.after_bytes.Given as goal

-- what the rest of the bytes makes of the remainder is what all of them make of the first
abbrev pub invariant-loop-byte : goal.invariant-loop-byte
invariant-loop-byte l = remainder_of l.remainder (bits_of (drop l.byte-index l.bytes)) ≡ remainder_of l.start (bits_of l.bytes)
