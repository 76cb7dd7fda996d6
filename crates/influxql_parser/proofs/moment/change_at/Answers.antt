use Rattle.influxql_parser.proofs.MomentLemmas.{change-found}
use Rattle.influxql_parser.proofs.moment.change_at.Goals as goal

pub returns-in-Some-split_first-clause-found : goal.returns-in-Some-split_first-clause-found
returns-in-Some-split_first-clause-found c =
    change-found c.args.tokens.now c.in-Some.behind.now c.in-Some-split_first._rest.now c.in-Some.sign.now c.in-Some-split_first.amount.now c.change_in.result
    c.in-Some.ensures.cases.0 c.in-Some-split_first.ensures.cases.0 c.change_in.ensures
