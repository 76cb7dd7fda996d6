use Rattle.std.proofs.Common.{sym, ◌∙◌}
use Rattle.std.proofs.lemmas.Result.{IfOk-weaker}
use Rattle.influxql_parser.proofs.ShowLemmas.{only-of, only-none}
use Rattle.influxql_parser.proofs.word.only_name.Goals as goal

pub returns-then-is_empty : goal.returns-then-is_empty
returns-then-is_empty c =
    IfOk-weaker c.name_in.result _ _ (λ name is. is ∙ sym (only-of c.args.tokens.now c.in-Some.behind.now c.in-Some.named.now c.in-Some.ensures.cases.0 (sym c.is_empty.ensures ∙ c.if-is_empty.true))) c.name_in.ensures

pub returns-else-is_empty : goal.returns-else-is_empty
returns-else-is_empty c = sym (only-none c.args.tokens.now c.in-Some.behind.now c.in-Some.named.now c.in-Some.ensures.cases.0 (sym c.is_empty.ensures ∙ c.if-is_empty.false))
