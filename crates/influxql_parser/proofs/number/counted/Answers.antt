use Rattle.std.proofs.Common.{◌≡◌, ℕ, ◌+◌, ◌*◌, ◌-◌, ◌<◌, ◌^◌, List, drop, get_or, sym, ap, subst, ◌∙◌, arith}
use Rattle.std.proofs.lemmas.List.{drop_all, at_drop_more}
use Rattle.influxql_parser.specs.Numbers.{decimal_from}
use Rattle.influxql_parser.proofs.NumberLemmas.{decimal_from-ge}
use Rattle.influxql_parser.proofs.number.counted.Goals as goal

pub returns-in-None : goal.returns-in-None
returns-in-None c = λ fits.
    let ds = c.args.digits.now in
    let i = c.loop-digit.digit-index in
    let n = c.loop-digit.number in
    let step = at_drop_more (λ (left : List ℕ). decimal_from n left) ds i 0 c.loop-digit-test.true in
    let more = decimal_from-ge (n * 10 + (get_or ds i 0 - 48)) (drop (i + 1) ds) in
    c.in-None.ensures (omega (arith, step, more, c.loop-digit.invariant.same, fits))

pub returns : goal.returns
returns c =
    let ends = ap (λ (ds : List ℕ). decimal_from c.loop-digit.number ds) (drop_all c.loop-digit.digit-index c.args.digits.now (omega arith)) in
    let same : c.loop-digit.number ≡ decimal_from 0 c.args.digits.now = sym ends ∙ c.loop-digit.invariant.same in
    (subst (λ (n : ℕ). n < 2 ^ 64) same c.loop-digit.invariant.fits, same)
