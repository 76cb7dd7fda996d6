use Rattle.std.proofs.Common.{◌<◌, ◌^◌, sym, ◌∙◌, arith}
use Rattle.std.specs.Prelude.{bit_xor}
use Rattle.std.proofs.lemmas.Nat.{xor_lt}
use Rattle.word_codec.proofs.Crc32Lemmas.{eight_bytes, by_bytes}
use Rattle.word_codec.proofs.checksum.after_eight.Goals as goal

pub returns : goal.returns
returns c =
    let fits : bit_xor c.from_le_bytes.result c.args.start < 2 ^ 64 = xor_lt 64 c.from_le_bytes.result c.args.start (omega arith) (omega arith) in
    by_bytes (bit_xor c.from_le_bytes.result c.args.start) _ _ _ _ _ _ _ _ fits c.behind.ensures c.behind-2.ensures c.behind-3.ensures c.behind-4.ensures c.behind-5.ensures c.behind-6.ensures c.behind-7.ensures c.behind-8.ensures
    ∙ sym (eight_bytes c.args.eight.now c.args.start c.from_le_bytes.result c.told-eight (λ i. omega (arith, c.fits-eight i)) c.from_le_bytes.ensures (omega arith))
