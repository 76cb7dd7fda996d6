use Rattle.std.proofs.Common.{◌+◌, ap, sym, ◌∙◌, drop}
use Rattle.word_codec.specs.Crc32.{remainder_of, bits_of}
use Rattle.word_codec.proofs.Crc32Lemmas.{next_byte, whole_text}
use Rattle.word_codec.proofs.checksum.after_bytes.Goals as goal

pub loop-byte-preserved : goal.loop-byte-preserved
loop-byte-preserved c =
    ap (λ remainder. remainder_of remainder (bits_of (drop (c.loop-byte.byte-index + 1) c.args.bytes.now))) c.after_byte-remainder.ensures
    ∙ sym (next_byte c.args.bytes.now c.loop-byte.byte-index c.loop-byte.remainder c.loop-byte-test.true)
    ∙ c.loop-byte.invariant

pub returns : goal.returns
returns c = whole_text c.args.bytes.now c.loop-byte.byte-index c.loop-byte.remainder c.args.start c.loop-byte-test.false c.loop-byte.invariant
