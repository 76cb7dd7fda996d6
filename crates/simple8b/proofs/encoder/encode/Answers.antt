use Rattle.std.proofs.Common.{◌≡◌, true, ◌<◌, ◌+◌, ◌*◌, ◌%◌, ◌^◌, ◌++◌, ◌∷◌, ℕ, arith, rules, sym, ◌∙◌, ap, List, length, take, drop, bit_or, append_assoc}
use Rattle.std.proofs.lemmas.Nat.{or_shifted, shl_whole}
use Rattle.std.proofs.lemmas.List.{append-nil, nil_from_length}
use Rattle.std.proofs.lemmas.List.Elements.{All-drop, All-same}
use Rattle.simple8b.specs.Words.{words_of, word_of, selector_of, count_of, payload, fits}
use Rattle.simple8b.proofs.Selecting.{long_from_holds, fit_from_holds}
use Rattle.simple8b.proofs.Spelling.{words_of-step, words_of-nil, word_of-is}
use Rattle.simple8b.proofs.encoder.encode.Goals as goal

pub split_at-requires : goal.split_at-requires
split_at-requires c = omega (arith, long_from_holds _ _ c.first_selector-selector.ensures.whole, c.held.ensures.count)

pub lower_bits-requires-clause-fitting : goal.lower_bits-requires-clause-fitting
lower_bits-requires-clause-fitting c =
    All-same (λ value. fits c.first_selector-selector.result value ≡ true) c.split_at.result.0.now (take (count_of c.first_selector-selector.result) c.loop-rest.rest.now)
    (c.split_at.ensures.front ∙ ap (λ (n : ℕ). take n c.loop-rest.rest.now) c.held.ensures.count)
    (fit_from_holds _ _ c.first_selector-selector.ensures.whole)

-- the word of the selector and the lower bits is the word of the next values
word_is : (rest next : List ℕ) (selector held lower : ℕ) → selector ≡ selector_of rest → selector < 16 → held ≡ count_of selector → next ≡ take held rest → lower ≡ payload selector next → lower < 2 ^ 60 → bit_or (selector * 2 ^ 60 % 2 ^ 64) lower ≡ word_of rest
word_is rest next selector held lower first below count front is narrow =
    ap (λ (n : ℕ). bit_or n lower) (shl_whole selector 4 60 64 (omega arith) (omega arith))
    ∙ or_shifted selector 60 lower narrow
    ∙ ap (λ (n : ℕ). selector * 2 ^ 60 + n) (is ∙ ap (payload selector) (front ∙ ap (λ (n : ℕ). take n rest) count))
    ∙ ap (λ (s : ℕ). s * 2 ^ 60 + payload s (take (count_of s) rest)) first
    ∙ sym (word_of-is rest)

pub loop-rest-preserved : goal.loop-rest-preserved
loop-rest-preserved c =
    let rest = c.loop-rest.rest.now in
    let first = c.first_selector-selector in
    let word = word_is rest c.split_at.result.0.now first.result c.held.result c.lower_bits.result first.ensures.first first.ensures.selector c.held.ensures.count c.split_at.ensures.front c.lower_bits.ensures.value c.lower_bits.ensures.narrow in
    let held : c.held.result ≡ count_of (selector_of rest) = c.held.ensures.count ∙ ap count_of first.ensures.first in
    let some : 0 < length rest = omega (arith, c.held.ensures.some, c.split_at.ensures.back_len) in
    let step = words_of-step rest some (omega (arith, held, c.held.ensures.some)) in
    let behind : c.split_at.result.1.now ≡ drop (count_of (selector_of rest)) rest = c.split_at.ensures.back ∙ ap (λ (n : ℕ). drop n rest) held in
    record {
      words = ap (λ (ws : List ℕ). ws ++ words_of c.split_at.result.1.now) c.in_ok-push.ensures.items
          ∙ append_assoc c.loop-rest.words.items _ _
          ∙ ap (λ (w : ℕ). c.loop-rest.words.items ++ (w ∷ words_of c.split_at.result.1.now)) word
          ∙ ap (λ (back : List ℕ). c.loop-rest.words.items ++ (word_of rest ∷ words_of back)) behind
          ∙ ap (λ (ws : List ℕ). c.loop-rest.words.items ++ ws) (sym step)
          ∙ c.loop-rest.invariant.words;
      narrow = All-same (λ value. value < 2 ^ 60) c.split_at.result.1.now (drop c.held.result rest) c.split_at.ensures.back (All-drop (λ value. value < 2 ^ 60) c.held.result rest c.loop-rest.invariant.narrow);
    }

pub returns : goal.returns
returns c =
    let none : length c.loop-rest.rest.now ≡ 0 = search rules in
    let empty = nil_from_length c.loop-rest.rest.now none in
    record { ok = sym (append-nil c.loop-rest.words.items) ∙ ap (λ (ws : List ℕ). c.loop-rest.words.items ++ ws) (sym (ap words_of empty ∙ words_of-nil)) ∙ c.loop-rest.invariant.words }
