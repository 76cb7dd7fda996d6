use Rattle.word_codec.proofs.WordsLemmas.{one_written}
use Rattle.word_codec.proofs.words.write_words.Goals as goal

pub loop-word-preserved : goal.loop-word-preserved
loop-word-preserved c =
    one_written c.args.words.now c.loop-word.word-index c.args.out.now.items c.loop-word.out.items c.extend_from_slice.new.self.items c.to_be_bytes.result c.loop-word-test.true
    c.to_be_bytes.ensures c.in_ok-extend_from_slice.ensures.items c.loop-word.invariant
