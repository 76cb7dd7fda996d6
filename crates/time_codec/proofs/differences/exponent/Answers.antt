use Rattle.std.proofs.Common.{◌≡◌, ap, sym, ◌∙◌, arith}
use Rattle.time_codec.specs.Times.{greatest_exponent}
use Rattle.time_codec.proofs.ScaleLemmas.{greatest_at, greatest_below, greatest_zero}
use Rattle.time_codec.proofs.differences.exponent.Goals as goal

pub returns-then-is_divisor-clause-found : goal.returns-then-is_divisor-clause-found
returns-then-is_divisor-clause-found c =
    sym (greatest_at c.loop-exponent.exponent c.args.differences.now c.loop-exponent-test.true (sym c.if-is_divisor.ensures)) ∙ c.loop-exponent.invariant.0

pub loop-exponent-preserved : goal.loop-exponent-preserved
loop-exponent-preserved c = (
  sym (greatest_below c.loop-exponent.exponent c.args.differences.now c.loop-exponent-test.true (sym c.if-is_divisor.ensures)) ∙ c.loop-exponent.invariant.0,
  omega (arith, c.loop-exponent.invariant.1),
)

pub returns-clause-found : goal.returns-clause-found
returns-clause-found c =
    let none : 0 ≡ c.loop-exponent.exponent = omega arith in
    sym (greatest_zero c.args.differences.now) ∙ ap (λ e. greatest_exponent e c.args.differences.now) none ∙ c.loop-exponent.invariant.0
