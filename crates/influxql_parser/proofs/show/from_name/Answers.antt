use Rattle.std.proofs.Common.{sym, ◌∙◌}
use Rattle.influxql_parser.proofs.ShowLemmas.{is-empty, not-empty, no-from, no-name, from-only}
use Rattle.influxql_parser.proofs.show.from_name.Goals as goal

pub returns-then-is_empty-clause-found : goal.returns-then-is_empty-clause-found
returns-then-is_empty-clause-found c = is-empty c.args.tokens.now (sym c.is_empty.ensures ∙ c.if-is_empty.true)

pub returns-in-None-clause-none : goal.returns-in-None-clause-none
returns-in-None-clause-none c = no-from c.args.tokens.now (not-empty c.args.tokens.now (sym c.is_empty.ensures ∙ c.if-is_empty.false)) c.in-None.ensures.none

pub returns-in-None-2-clause-none : goal.returns-in-None-2-clause-none
returns-in-None-2-clause-none c =
    no-name c.args.tokens.now c.in-Some.behind.now (not-empty c.args.tokens.now (sym c.is_empty.ensures ∙ c.if-is_empty.false)) c.in-Some.ensures.found (sym c.in_ok-only_name-in-Some.ensures ∙ c.in-None-2.is)

pub returns-in-Some-2-clause-found : goal.returns-in-Some-2-clause-found
returns-in-Some-2-clause-found c = from-only c.args.tokens.now c.in-Some.behind.now c.in-Some-2.name c.in-Some.ensures.found (sym c.in_ok-only_name-in-Some.ensures ∙ c.in-Some-2.is)
