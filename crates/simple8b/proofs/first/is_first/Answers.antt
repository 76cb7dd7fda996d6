use Rattle.std.proofs.Common.{eqb, length, ap, sym, arith}
use Rattle.std.proofs.lemmas.Bool.{eq-eqb}
use Rattle.std.proofs.lemmas.List.{length-take}
use Rattle.simple8b.specs.Words.{count_of}
use Rattle.simple8b.specs.Unpacked.{selector_in}
use Rattle.simple8b.proofs.Tables.{count_some}
use Rattle.simple8b.proofs.Spelling.{selector_low, length-values_in}
use Rattle.simple8b.proofs.Wide.{zero_first, wide_first}
use Rattle.simple8b.proofs.first.is_first.Goals as goal

pub returns-then-selector-eq0 : goal.returns-then-selector-eq0
returns-then-selector-eq0 c = sym (eq-eqb _ _ (zero_first c.args.word c.args.values.now c.if-selector-eq0.true c.requires.own))

pub returns-then-has_wide_value : goal.returns-then-has_wide_value
returns-then-has_wide_value c =
    let wide = c.has_wide_value.ensures.0 c.if-has_wide_value.true in
    sym (eq-eqb _ _ (wide_first c.args.word c.args.values.now wide.0 (selector_low c.args.word c.ranges.word.fits) c.requires.own wide.1))

pub first_selector-requires-clause-some : goal.first_selector-requires-clause-some
first_selector-requires-clause-some c =
    let word = c.args.word in
    omega (
      arith,
      ap length c.requires.own,
      length-values_in word,
      length-take (count_of (selector_in word)) c.args.values.now,
      count_some (selector_in word) (selector_low word c.ranges.word.fits),
    )

pub returns : goal.returns
returns c = ap (λ s. eqb s (selector_in c.args.word)) c.first_selector.ensures.first
