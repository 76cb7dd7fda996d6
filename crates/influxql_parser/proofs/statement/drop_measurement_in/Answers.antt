use Rattle.std.proofs.Common.{sym, ◌∙◌}
use Rattle.influxql_parser.proofs.DeletionLemmas.{drop-found}
use Rattle.influxql_parser.proofs.statement.drop_measurement_in.Goals as goal

pub returns-in_ok-condition-in-Some-2-clause-found : goal.returns-in_ok-condition-in-Some-2-clause-found
returns-in_ok-condition-in-Some-2-clause-found c =
    drop-found c.args.tokens.now c.in-Some.behind.now _ c.in-Some.ensures.found (sym c.in_ok-only_name-in-Some.ensures ∙ c.in-Some-2.is) c.in_ok-condition-in-Some-2.ensures
