use Rattle.std.proofs.Common.{arith}
use Rattle.influxql_parser.proofs.NumberLemmas.{parts-begin, parts-next, parts-end}
use Rattle.influxql_parser.proofs.number.parts_at.Goals as goal

pub loop-part-init : goal.loop-part-init
loop-part-init c = record { left = parts-begin c.args.nanoseconds c.args.text.now; shorter = omega arith }

pub loop-part-preserved : goal.loop-part-preserved
loop-part-preserved c = record {
  left = parts-next c.args.nanoseconds c.args.text.now c.loop-part.total c.in-Some.part c.sum-total.result c.loop-part.left.now c.in-Some.behind.now c.loop-part.invariant.left c.in-Some.ensures.found c.in-Some.ensures.shorter c.sum-total.ensures;
  shorter = omega (arith, c.in-Some.ensures.shorter);
}

pub returns-clause-total : goal.returns-clause-total
returns-clause-total c = parts-end c.args.nanoseconds c.args.text.now c.loop-part.total c.loop-part.left.now c.loop-part.invariant.left c.in_default.ensures.none
