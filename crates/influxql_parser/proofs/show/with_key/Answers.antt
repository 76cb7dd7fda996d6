use Rattle.std.proofs.Common.{Option, true, false, sym, ap, ◌∙◌}
use Rattle.influxql_parser.specs.declared.token.Symbol.{Symbol}
use Rattle.influxql_parser.specs.GrammarShows.{is_equal}
use Rattle.std.proofs.lemmas.Result.{IfOk-weaker}
use Rattle.influxql_parser.proofs.ShowLemmas.{key-none, key-empty, key-equal}
use Rattle.influxql_parser.proofs.show.with_key.Goals as goal

pub returns-in-None : goal.returns-in-None
returns-in-None c = sym (key-none c.args.tokens.now c.in-None.ensures.none)

pub returns-in-None-split_first : goal.returns-in-None-split_first
returns-in-None-split_first c = sym (key-empty c.args.tokens.now c.in-Some.behind.now c.in-Some.ensures.found c.in-None-split_first.ensures.cases)

pub returns-then-is_equal : goal.returns-then-is_equal
returns-then-is_equal c =
    IfOk-weaker c.only_name.result _ _
    (λ key is. is ∙ sym (key-equal c.args.tokens.now c.in-Some.behind.now c.in-Some-split_first.rest.now c.in-Some-split_first.equals.now true c.in-Some.ensures.found c.in-Some-split_first.ensures.cases.0 (ap (λ (o : Option Symbol). is_equal o) (sym c.symbol_in.ensures) ∙ sym c.is_equal.ensures ∙ c.if-is_equal.true)))
    c.only_name.ensures

pub returns-else-is_equal : goal.returns-else-is_equal
returns-else-is_equal c =
    sym (key-equal c.args.tokens.now c.in-Some.behind.now c.in-Some-split_first.rest.now c.in-Some-split_first.equals.now false c.in-Some.ensures.found c.in-Some-split_first.ensures.cases.0 (ap (λ (o : Option Symbol). is_equal o) (sym c.symbol_in.ensures) ∙ sym c.is_equal.ensures ∙ c.if-is_equal.false))
