use Rattle.value_codec.proofs.Tails.{big_endian_from}
use Rattle.value_codec.proofs.words.word_from.Goals as goal

pub returns : goal.returns
returns c = big_endian_from c.args.bytes.now c.from_be_bytes.result c.told-bytes c.fits-bytes c.from_be_bytes.ensures
