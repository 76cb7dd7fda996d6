use Rattle.std.proofs.Common.{◌≡◌, ◌<◌, ◌-◌, ◌*◌, ◌%◌, ◌^◌, ◌∷◌, ℕ, List, length, drop, get_or, arith, sym, ◌∙◌, ap, subst}
use Rattle.std.proofs.lemmas.Bool.{not-false, not-true, ltb-true, ltb-false, eqb-true, eq-eqb, false≢true}
use Rattle.std.proofs.lemmas.List.{drop_all, length-drop}
use Rattle.simple8b.specs.Words.{words_of, selector_of, count_of, bits_of}
use Rattle.simple8b.specs.Unpacked.{selector_in, values_of}
use Rattle.simple8b.proofs.Spelling.{AreNarrow, read_front, read_behind, not_first, not_tight, rest_spelled, values_of-nil, values_of-narrow, words_of-nil}
use Rattle.simple8b.proofs.Backward.{read_before, rest_words, word_before, said, no_room, lone_count, lone_before, lone_spelled}
use Rattle.simple8b.proofs.decoder.read_back.Goals as goal

pub loop-at-init : goal.loop-at-init
loop-at-init c =
    let words = c.args.words.now in
    let values = c.args.values.now in
    let none = drop_all (length words) words (omega arith) in
    let nothing = drop_all (length values) values (omega arith) in
    record {
      within = omega arith;
      room = omega arith;
      says = nothing ∙ sym (ap values_of none ∙ values_of-nil);
      spelled = ap words_of nothing ∙ words_of-nil ∙ sym none;
    }

pub returns-then-start-eq0-clause-refused : goal.returns-then-start-eq0-clause-refused
returns-then-start-eq0-clause-refused c = λ _ others narrow size spelled.
    let at = c.loop-at in
    no_room c.args.words.now others at.values at.at at.start (λ k. (c.type_inv.words k).fits) c.loop-at-test.true at.invariant.within narrow spelled (omega (arith, size, at.auto.values)) at.invariant.room at.invariant.says
    (omega (arith, lone_count (get_or c.args.words.now (at.at - 1) 0) (c.is_lone.ensures.selector c.if-is_lone.true), c.if-start-eq0.true))

pub loop-at-preserved-then-is_lone : goal.loop-at-preserved-then-is_lone
loop-at-preserved-then-is_lone c =
    let words = c.args.words.now in
    let at = c.loop-at.at in
    let word : ℕ = get_or words (at - 1) 0 in
    let rest = drop (c.loop-at.start - 1) c.unpack.new.values in
    let behind = drop at words in
    let is = c.is_lone.ensures.selector c.if-is_lone.true in
    let read = lone_before words c.loop-at.values c.unpack.new.values at c.loop-at.start (λ k. (c.type_inv.words k).fits) c.loop-at-test.true c.loop-at.invariant.within is (omega (arith, c.if-start-eq0.false)) c.loop-at.invariant.room c.unpack.ensures.front
    c.unpack.ensures.behind c.loop-at.invariant.says in
    let before : drop (at - 1) words ≡ word ∷ behind = word_before words at c.loop-at-test.true c.loop-at.invariant.within in
    record {
      within = omega (arith, c.loop-at.invariant.within);
      room = omega (arith, c.loop-at.invariant.room, c.unpack.auto.values);
      says = read.says ∙ ap values_of (sym before);
      spelled = lone_spelled rest word behind read is (c.is_lone.ensures.wide c.if-is_lone.true)
          ∙ ap (λ (vs : List ℕ). word ∷ words_of vs) (read_behind rest word behind read ∙ sym c.loop-at.invariant.says)
          ∙ ap (λ (ws : List ℕ). word ∷ ws) c.loop-at.invariant.spelled
          ∙ sym before;
    }

pub returns-then-start-count-clause-refused : goal.returns-then-start-count-clause-refused
returns-then-start-count-clause-refused c = λ _ others narrow size spelled.
    let at = c.loop-at in
    no_room c.args.words.now others at.values at.at at.start (λ k. (c.type_inv.words k).fits) c.loop-at-test.true at.invariant.within narrow spelled (omega (arith, size, at.auto.values)) at.invariant.room at.invariant.says
    (omega (arith, c.held-count.ensures.count, c.if-start-count.true))

pub is_first-requires-clause-own : goal.is_first-requires-clause-own
is_first-requires-clause-own c = read_front _ _ _ (read_before c.args.words.now c.loop-at.values c.unpack_word.new.values c.split_at.result.1.now c.loop-at.at c.loop-at.start c.held-count.result (λ k. (c.type_inv.words k).fits) c.loop-at-test.true c.loop-at.invariant.within
    c.held-count.ensures.count (omega (arith, c.if-start-count.false)) c.loop-at.invariant.room c.unpack_word.ensures.front c.unpack_word.ensures.behind c.loop-at.invariant.says c.split_at.ensures.back)

pub is_first-requires-clause-narrow : goal.is_first-requires-clause-narrow
is_first-requires-clause-narrow c =
    (read_before c.args.words.now c.loop-at.values c.unpack_word.new.values c.split_at.result.1.now c.loop-at.at c.loop-at.start c.held-count.result (λ k. (c.type_inv.words k).fits) c.loop-at-test.true c.loop-at.invariant.within
    c.held-count.ensures.count (omega (arith, c.if-start-count.false)) c.loop-at.invariant.room c.unpack_word.ensures.front c.unpack_word.ensures.behind c.loop-at.invariant.says c.split_at.ensures.back).narrow

pub returns-then-not-is_first-clause-refused : goal.returns-then-not-is_first-clause-refused
returns-then-not-is_first-clause-refused c = λ _ others narrow size spelled.
    let read = read_before c.args.words.now c.loop-at.values c.unpack_word.new.values c.split_at.result.1.now c.loop-at.at c.loop-at.start c.held-count.result (λ k. (c.type_inv.words k).fits) c.loop-at-test.true c.loop-at.invariant.within
    c.held-count.ensures.count (omega (arith, c.if-start-count.false)) c.loop-at.invariant.room c.unpack_word.ensures.front c.unpack_word.ensures.behind c.loop-at.invariant.says c.split_at.ensures.back in
    not_first _ _ _ read (λ same. false≢true (sym c.if-not-is_first.true ∙ c.is_first.ensures ∙ eq-eqb _ _ same))
    (rest_words c.args.words.now others _ c.loop-at.at (λ k. (c.type_inv.words k).fits) c.loop-at-test.true c.loop-at.invariant.within narrow spelled read.says)

pub returns-then-has_loose_bits-clause-refused : goal.returns-then-has_loose_bits-clause-refused
returns-then-has_loose_bits-clause-refused c = λ _ others narrow size spelled.
    let read = read_before c.args.words.now c.loop-at.values c.unpack_word.new.values c.split_at.result.1.now c.loop-at.at c.loop-at.start c.held-count.result (λ k. (c.type_inv.words k).fits) c.loop-at-test.true c.loop-at.invariant.within
    c.held-count.ensures.count (omega (arith, c.if-start-count.false)) c.loop-at.invariant.room c.unpack_word.ensures.front c.unpack_word.ensures.behind c.loop-at.invariant.says c.split_at.ensures.back in
    let first : selector_of c.split_at.result.1.now ≡ selector_in (get_or c.args.words.now (c.loop-at.at - 1) 0) = eqb-true _ _ (sym c.is_first.ensures ∙ c.if-not-is_first.false) in
    not_tight _ _ _ read first (ltb-false _ _ (not-true _ (sym c.has_loose_bits.ensures ∙ c.if-has_loose_bits.true)))
    (rest_words c.args.words.now others _ c.loop-at.at (λ k. (c.type_inv.words k).fits) c.loop-at-test.true c.loop-at.invariant.within narrow spelled read.says)

pub loop-at-preserved : goal.loop-at-preserved
loop-at-preserved c =
    let words = c.args.words.now in
    let at = c.loop-at.at in
    let word : ℕ = get_or words (at - 1) 0 in
    let rest = c.split_at.result.1.now in
    let behind = drop at words in
    let read = read_before c.args.words.now c.loop-at.values c.unpack_word.new.values c.split_at.result.1.now c.loop-at.at c.loop-at.start c.held-count.result (λ k. (c.type_inv.words k).fits) c.loop-at-test.true c.loop-at.invariant.within
    c.held-count.ensures.count (omega (arith, c.if-start-count.false)) c.loop-at.invariant.room c.unpack_word.ensures.front c.unpack_word.ensures.behind c.loop-at.invariant.says c.split_at.ensures.back in
    let first : selector_of rest ≡ selector_in word = eqb-true _ _ (sym c.is_first.ensures ∙ c.if-not-is_first.false) in
    let tight : word % 2 ^ 60 < 2 ^ (bits_of (selector_in word) * count_of (selector_in word)) =
    ltb-true _ _ (not-false _ (sym c.has_loose_bits.ensures ∙ c.if-has_loose_bits.false)) in
    let before : drop (at - 1) words ≡ word ∷ behind = word_before words at c.loop-at-test.true c.loop-at.invariant.within in
    record {
      within = omega (arith, c.loop-at.invariant.within);
      room = omega (arith, c.loop-at.invariant.room, c.unpack_word.auto.values);
      says = sym c.split_at.ensures.back ∙ read.says ∙ ap values_of (sym before);
      spelled = ap words_of (sym c.split_at.ensures.back)
          ∙ rest_spelled rest word behind read first tight
          ∙ ap (λ (vs : List ℕ). word ∷ words_of vs) (read_behind rest word behind read ∙ sym c.loop-at.invariant.says)
          ∙ ap (λ (ws : List ℕ). word ∷ ws) c.loop-at.invariant.spelled
          ∙ sym before;
    }

pub returns-clause-narrow : goal.returns-clause-narrow
returns-clause-narrow c = λ whole.
    let words = c.args.words.now in
    let values = c.loop-at.values in
    let first : c.loop-at.at ≡ 0 = omega (arith, c.loop-at-test.false) in
    let is : values ≡ values_of words =
    sym (ap (λ (n : ℕ). drop n values) (eqb-true _ _ whole)) ∙ c.loop-at.invariant.says ∙ ap (λ (n : ℕ). values_of (drop n words)) first in
    subst (λ (vs : List ℕ). AreNarrow vs) (sym is) (values_of-narrow words (λ k. (c.type_inv.words k).fits))

pub returns-clause-refused : goal.returns-clause-refused
returns-clause-refused c = λ some others narrow size spelled.
    let words = c.args.words.now in
    let first : c.loop-at.at ≡ 0 = omega (arith, c.loop-at-test.false) in
    let none : c.loop-at.start ≡ 0 =
    omega (
      arith,
      size,
      ap length ((said others words narrow spelled).0),
      ap length (c.loop-at.invariant.says ∙ ap (λ (n : ℕ). values_of (drop n words)) first),
      length-drop c.loop-at.start c.loop-at.values,
      c.loop-at.invariant.room,
      c.loop-at.auto.values,
    ) in
    false≢true (sym some ∙ eq-eqb _ _ none)
