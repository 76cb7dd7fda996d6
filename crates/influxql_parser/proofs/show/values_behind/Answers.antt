use Rattle.std.proofs.Common.{sym, ◌∙◌}
use Rattle.std.proofs.lemmas.Result.{IfOk-weaker}
use Rattle.influxql_parser.proofs.ShowLemmas.{nil-of, key-alone, no-key-alone, no-named, values-found, values-none}
use Rattle.influxql_parser.proofs.show.values_behind.Goals as goal

pub returns-in-None-2-clause-none : goal.returns-in-None-2-clause-none
returns-in-None-2-clause-none c = no-key-alone c.args.tokens.now c.in-None.ensures.none (sym c.in_ok-with_key-in-None.ensures ∙ c.in-None-2.is)

pub returns-in-Some-2-clause-found : goal.returns-in-Some-2-clause-found
returns-in-Some-2-clause-found c = key-alone c.args.tokens.now c.in-Some-2.key (sym c.in_ok-with_key-in-None.ensures ∙ c.in-Some-2.is)

pub returns-in-None-split_first-clause-none : goal.returns-in-None-split_first-clause-none
returns-in-None-split_first-clause-none c = no-named c.args.tokens.now c.in-Some.behind.now c.in-Some.ensures.found (nil-of c.in-Some.behind.now c.in-None-split_first.ensures.cases)

pub returns-in-Some-split_first-clause-found : goal.returns-in-Some-split_first-clause-found
returns-in-Some-split_first-clause-found c =
    IfOk-weaker c.name_with_key.result _ _
    (λ found is. values-found c.args.tokens.now c.in-Some.behind.now c.in-Some-split_first.rest.now c.in-Some-split_first.named.now found c.in-Some.ensures.found c.in-Some-split_first.ensures.cases.0 is)
    c.name_with_key.ensures

pub returns-in-Some-split_first-clause-none : goal.returns-in-Some-split_first-clause-none
returns-in-Some-split_first-clause-none c =
    IfOk-weaker c.name_with_key.result _ _
    (λ found is. values-none c.args.tokens.now c.in-Some.behind.now c.in-Some-split_first.rest.now c.in-Some-split_first.named.now found c.in-Some.ensures.found c.in-Some-split_first.ensures.cases.0 is)
    c.name_with_key.ensures
