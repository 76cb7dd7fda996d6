use Rattle.std.proofs.Common.{ap, sym, ◌∙◌, take, arith}
use Rattle.std.specs.Prelude.{bit_xor}
use Rattle.word_codec.specs.Crc32.{crc32_of, remainder_of, bits_of}
use Rattle.word_codec.proofs.Crc32Lemmas.{flipped, first_eight}
use Rattle.word_codec.proofs.checksum.crc32.Goals as goal

pub loop-eight-preserved : goal.loop-eight-preserved
loop-eight-preserved c =
    let cases = c.in-Some.ensures.cases in (
      ap (λ r. remainder_of r (bits_of c.in-Some.behind.now)) c.after_eight-remainder.ensures
          ∙ ap (λ eight. remainder_of (remainder_of c.loop-eight.remainder (bits_of eight)) (bits_of c.in-Some.behind.now)) cases.0
          ∙ ap (λ rest. remainder_of (remainder_of c.loop-eight.remainder (bits_of (take 8 c.loop-eight.rest.now))) (bits_of rest)) cases.1
          ∙ sym (first_eight c.loop-eight.rest.now c.loop-eight.remainder)
          ∙ c.loop-eight.invariant.0,
      omega arith,
    )

pub returns : goal.returns
unfolding crc32_of
returns c =
    flipped c.after_bytes.result (omega arith)
    ∙ ap (λ remainder. bit_xor remainder 0xFFFF_FFFF) (c.after_bytes.ensures ∙ c.loop-eight.invariant.0)
