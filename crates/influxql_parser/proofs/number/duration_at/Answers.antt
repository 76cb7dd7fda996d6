use Rattle.influxql_parser.proofs.NumberLemmas.{duration-is}
use Rattle.influxql_parser.proofs.number.duration_at.Goals as goal

pub returns-in-Some-clause-found : goal.returns-in-Some-clause-found
returns-in-Some-clause-found c =
    duration-is c.args.text.now c.in-Some.nanoseconds c.in-Some.behind.now c.parts_at.result.0 c.parts_at.result.1.now c.in-Some.ensures.found c.in-Some.ensures.shorter c.parts_at.ensures.total
