use Rattle.std.proofs.Common.{◌≡◌, ℕ, List, length, sym, ap, ◌∙◌, arith}
use Rattle.std.specs.Char.{is_ascii_digit}
use Rattle.influxql_parser.specs.Numbers.{decimal_from, behind_passing}
use Rattle.influxql_parser.proofs.NumberLemmas.{behind-shorter, part-is}
use Rattle.influxql_parser.proofs.number.part_at.Goals as goal

pub returns-in-Some-clause-found : goal.returns-in-Some-clause-found
returns-in-Some-clause-found c =
    part-is c.args.text.now c.digits_and_rest.result.0.now c.digits_and_rest.result.1.now c.in-Some.nanoseconds c.product.result c.in-Some.rest.now
    c.digits_and_rest.ensures.front c.digits_and_rest.ensures.behind (sym c.is_empty.ensures ∙ c.if-is_empty.false) c.in-Some.ensures.found
    (c.product.ensures (decimal_from 0 c.digits_and_rest.result.0.now) c.number_of.ensures)

pub returns-in-Some-clause-shorter : goal.returns-in-Some-clause-shorter
returns-in-Some-clause-shorter c =
    let short = behind-shorter is_ascii_digit c.args.text.now in
    let same : length c.digits_and_rest.result.1.now ≡ length (behind_passing is_ascii_digit c.args.text.now) = ap (λ (t : List ℕ). length t) c.digits_and_rest.ensures.behind in
    omega (arith, c.in-Some.ensures.shorter)
