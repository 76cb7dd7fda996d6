use Rattle.std.proofs.Common.{rules, Err, sym, ◌∙◌, ap}
use Rattle.simple8b.specs.Words.{words_of}
use Rattle.simple8b.specs.declared.fault.WordsFault.{WordsFault}
use Rattle.value_codec.proofs.Tails.{tail_packed, read_as_packed, packed_words}
use Rattle.value_codec.proofs.integers.read_packed.Goals as goal

pub returns-in_err-words-clause-bad_block : goal.returns-in_err-words-clause-bad_block
returns-in_err-words-clause-bad_block c = λ bad other fit size spelled.
    c.in_err-words.ensures.bad_block (search rules) (words_of other) (sym (tail_packed other) ∙ spelled)

pub returns-in-Ok-clause-found : goal.returns-in-Ok-clause-found
returns-in-Ok-clause-found c =
    read_as_packed c.args.count c.args.bytes.now c.in_ok-words.words.items c.in-Ok.rest.items c.in-Ok.ensures.size c.in-Ok.ensures.narrow (c.in-Ok.ensures.ok ∙ c.as_slice.ensures.value) c.in_ok-words.ensures.fit c.in_ok-words.ensures.found

pub returns-in-Err-BadWords-clause-bad_block : goal.returns-in-Err-BadWords-clause-bad_block
returns-in-Err-BadWords-clause-bad_block c = λ _ other fit size spelled.
    c.in-Err-BadWords.ensures.bad_words (ap (λ (e : WordsFault). Err e) c.in-Err-BadWords.field-0-is) other fit size (packed_words other c.in_ok-words.words.items c.args.bytes.now fit c.in_ok-words.ensures.fit spelled c.in_ok-words.ensures.found ∙ sym c.as_slice.ensures.value)
