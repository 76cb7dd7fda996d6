use Rattle.std.proofs.Common.{◌≡◌, ◌≤◌, ◌<◌, ◌^◌, ◌*◌, ◌%◌, ◌+◌, ◌⊎◌, ℕ, false, min, below_more, ⊎_elim, length, arith, sym, ap, ◌∙◌}
use Rattle.std.proofs.lemmas.Bool.{cases_lt}
use Rattle.std.proofs.lemmas.Nat.{one_shl}
use Rattle.simple8b.specs.Words.{count_of, bits_of, holds}
use Rattle.simple8b.proofs.Tables.{count_first, count_second, count_some, bits_some, bits_rise, bits_most, pow_le}
use Rattle.simple8b.proofs.Selecting.{selector_is, holds_ones, holds_no_ones, holds_not_ones, holds_not_run, holds_not_first, holds_run, last_holds, run_narrow}
use Rattle.simple8b.proofs.selector.first_selector.Goals as goal
use Rattle.simple8b.proofs.selector.first_selector.Goals.{Then-fitting-count, Else-fitting-count}

pub returns-then-ones-eq240-clause-whole : goal.returns-then-ones-eq240-clause-whole
returns-then-ones-eq240-clause-whole c =
    let ones = c.leading_ones-ones in
    holds_ones 0 c.args.values.now ones.result (omega arith) (omega (arith, count_first)) ones.ensures.within ones.ensures.ones

pub returns-then-ones-eq240-clause-first : goal.returns-then-ones-eq240-clause-first
returns-then-ones-eq240-clause-first c =
    let ones = c.leading_ones-ones in
    sym (selector_is c.args.values.now 0 (omega arith)
    (holds_ones 0 c.args.values.now ones.result (omega arith) (omega (arith, count_first)) ones.ensures.within ones.ensures.ones)
    (λ k below. absurd (omega arith)))

pub returns-then-ones-ge120-clause-whole : goal.returns-then-ones-ge120-clause-whole
returns-then-ones-ge120-clause-whole c =
    let ones = c.leading_ones-ones in
    holds_ones 1 c.args.values.now ones.result (omega arith) (omega (arith, count_second)) ones.ensures.within ones.ensures.ones

pub returns-then-ones-ge120-clause-first : goal.returns-then-ones-ge120-clause-first
returns-then-ones-ge120-clause-first c =
    let ones = c.leading_ones-ones in
    sym (selector_is c.args.values.now 1 (omega arith)
    (holds_ones 1 c.args.values.now ones.result (omega arith) (omega (arith, count_second)) ones.ensures.within ones.ensures.ones)
    (λ k below. holds_not_ones k c.args.values.now ones.result (omega arith)
    (let at : k ≡ 0 = omega arith in omega (arith, count_first, ap count_of at)) ones.ensures.within (ones.ensures.ends (omega arith))))

pub loop-selector-init : goal.loop-selector-init
loop-selector-init c =
    let ones = c.leading_ones-ones in
    let start = c.narrowest-selector in
    record {
      before = λ k below. ⊎_elim
          (λ low. holds_no_ones c.args.values.now ones.result k low (omega arith) ones.ensures.within (ones.ensures.ends (omega arith)))
          (λ high. holds_not_first k c.args.values.now high (count_some k (omega arith)) c.requires.some (start.ensures.narrower k high below))
          (cases_lt k 2);
      fitting = λ k below. omega (arith, ones.ensures.ones k below, pow_le 1 (bits_of start.result) (bits_some start.result start.ensures.least (omega arith)));
      within = ones.ensures.within;
    }

-- the limit of the run
limit_is : (bits shift : ℕ) → shift ≡ bits → bits ≤ 60 → 1 * 2 ^ shift % 2 ^ 64 ≡ 2 ^ bits
limit_is bits shift same most = ap (λ (e : ℕ). 1 * 2 ^ e % 2 ^ 64) same ∙ one_shl bits 64 (omega arith)

-- how far the run goes
run_within : (run from end count size : ℕ) → (run ≤ end) ⊎ (run ≡ from) → end ≡ min count size → from ≤ size → run ≤ size
run_within run from end count size ended is start = ⊎_elim (λ early. omega arith) (λ same. omega arith) ended

pub returns-then-fitting-count-clause-whole : goal.returns-then-fitting-count-clause-whole
returns-then-fitting-count-clause-whole c =
    let selector = c.loop-selector.selector in
    let run = c.run_below-fitting in
    let limit : 1 * 2 ^ c.width.result % 2 ^ 64 ≡ 2 ^ bits_of selector = limit_is (bits_of selector) c.width.result c.width.ensures.bits (bits_most selector (omega arith)) in
    holds_run selector c.args.values.now run.result (omega arith) (omega (arith, c.held-count.ensures.count))
    (run_within run.result c.loop-selector.fitting c.min.result c.held-count.result (length c.args.values.now) run.ensures.within c.min.ensures c.loop-selector.invariant.within)
    (λ k below. run_narrow c.args.values.now (bits_of selector) _ c.loop-selector.fitting run.result k limit c.loop-selector.invariant.fitting run.ensures.below below)

pub returns-then-fitting-count-clause-first : goal.returns-then-fitting-count-clause-first
returns-then-fitting-count-clause-first c =
    sym (selector_is c.args.values.now c.loop-selector.selector (omega arith) (returns-then-fitting-count-clause-whole c) c.loop-selector.invariant.before)

pub loop-selector-preserved : goal.loop-selector-preserved
loop-selector-preserved c =
    let selector = c.loop-selector.selector in
    let run = c.run_below-fitting in
    let limit : 1 * 2 ^ c.width.result % 2 ^ 64 ≡ 2 ^ bits_of selector = limit_is (bits_of selector) c.width.result c.width.ensures.bits (bits_most selector (omega arith)) in
    let within : run.result ≤ length c.args.values.now = run_within run.result c.loop-selector.fitting c.min.result c.held-count.result (length c.args.values.now) run.ensures.within c.min.ensures c.loop-selector.invariant.within in
    let short : run.result < count_of selector = omega (arith, c.held-count.ensures.count) in
    let unheld : holds selector c.args.values.now ≡ false =
    holds_not_run selector c.args.values.now run.result (1 * 2 ^ c.width.result % 2 ^ 64) (omega arith) limit short
    (λ there. run.ensures.ends (omega (arith, c.min.ensures, c.held-count.ensures.count))) in
    record {
      before = below_more _ _ c.loop-selector.invariant.before unheld;
      fitting = λ k below. omega (
        arith,
        run_narrow c.args.values.now (bits_of selector) _ c.loop-selector.fitting run.result k limit c.loop-selector.invariant.fitting run.ensures.below below,
        pow_le (bits_of selector) (bits_of (selector + 1)) (bits_rise selector (omega arith)),
      );
      within = within;
    }

pub returns-clause-whole : goal.returns-clause-whole
returns-clause-whole c = last_holds c.args.values.now c.requires.some c.requires.narrow

pub returns-clause-first : goal.returns-clause-first
returns-clause-first c =
    sym (selector_is c.args.values.now 15 (omega arith) (last_holds c.args.values.now c.requires.some c.requires.narrow)
    (λ k below. c.loop-selector.invariant.before k (omega arith)))
