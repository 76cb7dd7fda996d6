use Rattle.std.proofs.Common.{◌≡◌, ◌<◌, ◌^◌, ℕ, List, length, ap, sym, ◌∙◌, arith}
use Rattle.std.specs.Prelude.{All}
use Rattle.std.specs.List.{flat_map}
use Rattle.std.specs.Int.{to_be_bytes, w64}
use Rattle.word_codec.proofs.WordsLemmas.{length-words, words_apart}
use Rattle.time_codec.proofs.ReadingLemmas.{of_if_some, of_if_none}
use Rattle.time_codec.proofs.words.words_in.Goals as goal

pub returns-then-bytes-gt-MOST_BYTES-clause-only :
    goal.returns-then-bytes-gt-MOST_BYTES-clause-only
returns-then-bytes-gt-MOST_BYTES-clause-only c = λ words all few is.
    omega (arith, ap length is, length-words words, few)

pub returns-in_default-clause-only : goal.returns-in_default-clause-only
returns-in_default-clause-only c = λ words all few is.
    absurd (of_if_none c.in_ok-words.field-0 ((words : List ℕ) → flat_map (to_be_bytes w64) words ≡ c.args.bytes.now → ⊥) c.in_default.not-Some c.in_ok-words.ensures.cut words (sym is))

pub returns-clause-most : goal.returns-clause-most
returns-clause-most c =
    let found = of_if_some c.in_ok-words.field-0 c.in-Some.words (λ words. flat_map (to_be_bytes w64) words.items ≡ c.args.bytes.now) c.in-Some.is c.in_ok-words.ensures.found in
    omega (arith, ap length found, length-words c.in-Some.words.items)

pub returns-clause-only : goal.returns-clause-only
returns-clause-only c = λ words all few is.
    let found = of_if_some c.in_ok-words.field-0 c.in-Some.words (λ words. flat_map (to_be_bytes w64) words.items ≡ c.args.bytes.now) c.in-Some.is c.in_ok-words.ensures.found in
    let fit = of_if_some c.in_ok-words.field-0 c.in-Some.words (λ words. All (λ word. word < 2 ^ 64) words.items) c.in-Some.is c.in_ok-words.ensures.fit in
    words_apart c.in-Some.words.items words fit all (found ∙ is)
