use Rattle.std.proofs.lemmas.Result.{IfOk-weaker}
use Rattle.influxql_parser.proofs.ShowLemmas.{no-values, tags-found, tags-none}
use Rattle.influxql_parser.proofs.show.tag_values.Goals as goal

pub returns-in-None-clause-none : goal.returns-in-None-clause-none
returns-in-None-clause-none c = no-values c.args.tokens.now c.in-None.ensures.none

pub returns-in-Some-clause-found : goal.returns-in-Some-clause-found
returns-in-Some-clause-found c =
    IfOk-weaker c.values_behind.result _ _ (λ found is. tags-found c.args.tokens.now c.in-Some.behind.now found c.in-Some.ensures.found is) c.values_behind.ensures.found

pub returns-in-Some-clause-none : goal.returns-in-Some-clause-none
returns-in-Some-clause-none c =
    IfOk-weaker c.values_behind.result _ _ (λ found is. tags-none c.args.tokens.now c.in-Some.behind.now found c.in-Some.ensures.found is) c.values_behind.ensures.none
