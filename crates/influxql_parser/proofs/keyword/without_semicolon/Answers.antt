use Rattle.std.proofs.Common.{Option, true, false, sym, ap, ◌∙◌}
use Rattle.influxql_parser.specs.declared.token.Symbol.{Symbol}
use Rattle.influxql_parser.specs.GrammarWords.{is_semicolon}
use Rattle.influxql_parser.proofs.ShowLemmas.{semicolon-chosen}
use Rattle.influxql_parser.proofs.keyword.without_semicolon.Goals as goal

pub returns-then-is_semicolon : goal.returns-then-is_semicolon
returns-then-is_semicolon c =
    sym (semicolon-chosen c.args.tokens.now c.in-Some.front.now c.in-Some.last.now true c.in-Some.ensures.cases.0
    (ap (λ (o : Option Symbol). is_semicolon o) (sym c.symbol_in.ensures) ∙ sym c.is_semicolon.ensures ∙ c.if-is_semicolon.true))

pub returns-else-is_semicolon : goal.returns-else-is_semicolon
returns-else-is_semicolon c =
    sym (semicolon-chosen c.args.tokens.now c.in-Some.front.now c.in-Some.last.now false c.in-Some.ensures.cases.0
    (ap (λ (o : Option Symbol). is_semicolon o) (sym c.symbol_in.ensures) ∙ sym c.is_semicolon.ensures ∙ c.if-is_semicolon.false))
