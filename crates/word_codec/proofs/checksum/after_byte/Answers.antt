use Rattle.std.proofs.Common.{◌/◌, ap, sym, ◌∙◌, arith}
use Rattle.std.specs.Prelude.{bit_xor}
use Rattle.word_codec.proofs.Crc32Lemmas.{one_byte}
use Rattle.word_codec.proofs.checksum.after_byte.Goals as goal

pub returns : goal.returns
returns c = ap (λ n. bit_xor n (c.args.start / 256)) c.behind.ensures ∙ sym (one_byte c.args.start c.args.byte (omega arith))
