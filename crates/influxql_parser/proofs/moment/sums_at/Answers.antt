use Rattle.influxql_parser.proofs.MomentLemmas.{sum-next, sum-within}
use Rattle.influxql_parser.specs.GrammarPieces.{sums_at}
use Rattle.influxql_parser.proofs.moment.sums_at.Goals as goal

pub loop-change-preserved : goal.loop-change-preserved
loop-change-preserved c = (
  sum-next c.args.tokens.now c.behind_place.result.now c.loop-change.at c.loop-change.total c.in-Some.change c.sum-total.result (sums_at c.args.base c.args.tokens.now)
      c.behind_place.ensures c.in-Some.ensures.found c.sum-total.ensures c.loop-change.invariant.0,
  sum-within c.args.tokens.now c.behind_place.result.now c.loop-change.at c.behind_place.ensures c.in-Some.ensures.longer,
)
