use Rattle.std.proofs.Common.{◌≡◌, ◌^◌, ◌/◌, length, Err, ap, sym, ◌∙◌, arith}
use Rattle.std.specs.Prelude.{sum_by}
use Rattle.std.specs.List.{flat_map}
use Rattle.std.specs.Int.{to_be_bytes, w64}
use Rattle.simple8b.specs.Words.{words_of, count_of}
use Rattle.simple8b.proofs.Spelling.{counted, apart}
use Rattle.time_codec.proofs.WordsLemmas.{few_words, all_from_words}
use Rattle.time_codec.proofs.ReadingLemmas.{some_and, of_some, of_if_some}
use Rattle.time_codec.proofs.bodies.values_in.Goals as goal

pub returns-in_default-clause-only : goal.returns-in_default-clause-only
returns-in_default-clause-only c = λ steps narrow few is.
    let words = few_words steps narrow in
    let found = c.in_ok-words.ensures.only (words_of steps) (all_from_words (words_of steps) words.fit) (omega (arith, words.few, few)) is in
    let some = some_and c.in_ok-words.field-0 (λ read. read.items ≡ words_of steps) found in
    c.in_default.not-Some some.0 some.1

pub returns-then-count-gt999-clause-only : goal.returns-then-count-gt999-clause-only
returns-then-count-gt999-clause-only c = λ steps narrow few is.
    let words = few_words steps narrow in
    let found = c.in_ok-words.ensures.only (words_of steps) (all_from_words (words_of steps) words.fit) (omega (arith, words.few, few)) is in
    let items : c.in-Some.words.items ≡ words_of steps = of_some c.in_ok-words.field-0 c.in-Some.words (λ read. read.items ≡ words_of steps) c.in-Some.is found in
    let count : c.count-count.result ≡ length steps =
    c.count-count.ensures ∙ ap (sum_by (λ word. count_of (word / 2 ^ 60))) (c.as_slice.ensures.value ∙ items) ∙ counted steps narrow in
    omega (arith, count, few)

pub returns-in-Ok-clause-found : goal.returns-in-Ok-clause-found
returns-in-Ok-clause-found c =
    let found = of_if_some c.in_ok-words.field-0 c.in-Some.words (λ words. flat_map (to_be_bytes w64) words.items ≡ c.args.rest.now) c.in-Some.is c.in_ok-words.ensures.found in
    sym found ∙ ap (flat_map (to_be_bytes w64)) (sym (c.in-Ok.ensures.ok ∙ c.as_slice-2.ensures.value))

pub returns-in-Ok-clause-only : goal.returns-in-Ok-clause-only
returns-in-Ok-clause-only c = λ steps narrow few is.
    let words = few_words steps narrow in
    let found = c.in_ok-words.ensures.only (words_of steps) (all_from_words (words_of steps) words.fit) (omega (arith, words.few, few)) is in
    let items : c.in-Some.words.items ≡ words_of steps = of_some c.in_ok-words.field-0 c.in-Some.words (λ read. read.items ≡ words_of steps) c.in-Some.is found in
    apart c.in-Ok.steps.items steps c.in-Ok.ensures.narrow narrow (c.in-Ok.ensures.ok ∙ c.as_slice-2.ensures.value ∙ items)

pub returns-in-Err-BadWords-clause-only : goal.returns-in-Err-BadWords-clause-only
returns-in-Err-BadWords-clause-only c = λ steps narrow few is.
    let words = few_words steps narrow in
    let found = c.in_ok-words.ensures.only (words_of steps) (all_from_words (words_of steps) words.fit) (omega (arith, words.few, few)) is in
    let items : c.in-Some.words.items ≡ words_of steps = of_some c.in_ok-words.field-0 c.in-Some.words (λ read. read.items ≡ words_of steps) c.in-Some.is found in
    let count : c.count-count.result ≡ length steps =
    c.count-count.ensures ∙ ap (sum_by (λ word. count_of (word / 2 ^ 60))) (c.as_slice.ensures.value ∙ items) ∙ counted steps narrow in
    c.in-Err-BadWords.ensures.bad_words (ap (λ e. Err e) c.in-Err-BadWords.field-0-is) steps narrow (sym count) (sym items ∙ sym c.as_slice-2.ensures.value)
