use Rattle.std.proofs.Common.{◌≡◌, ◌^◌, ◌<◌, length}
use Rattle.word_codec.specs.Crc32.{remainder_of, bits_of}
use Rattle.word_codec.proofs.checksum.crc32.Given as goal

-- what the rest of the text makes of the remainder is what the whole text makes of the first
abbrev pub invariant-loop-eight : goal.invariant-loop-eight
invariant-loop-eight l = (remainder_of l.remainder (bits_of l.rest) ≡ remainder_of 0xFFFF_FFFF (bits_of l.text)) × (l.remainder < 2 ^ 32)

abbrev pub decreases-loop-eight : goal.decreases-loop-eight
decreases-loop-eight l = length l.rest
