use Rattle.std.proofs.Common.{◌%◌, arith}
use Rattle.word_codec.proofs.Crc32Lemmas.{entry}
use Rattle.word_codec.proofs.checksum.behind.Goals as goal

pub returns : goal.returns
returns c = entry c.args.zeros (c.args.word % 256) c.requires (omega arith)
