use Rattle.std.proofs.Common.{sym, ◌∙◌}
use Rattle.influxql_parser.proofs.TokenLemmas.{word-shorter}
use Rattle.influxql_parser.proofs.lexer.token_at.Goals as goal

pub returns-then-begins_word-clause-shorter : goal.returns-then-begins_word-clause-shorter
returns-then-begins_word-clause-shorter c =
    word-shorter c.args.text.now c.in_ok-first.first.now c.in_ok-first.behind.now c.word_and_rest.result.1.now c.in_ok-first.ensures.cases.0 (sym c.begins_word.ensures ∙ c.if-begins_word.true) c.word_and_rest.ensures.behind

pub returns-then-is_ascii_digit-clause-shorter : goal.returns-then-is_ascii_digit-clause-shorter
returns-then-is_ascii_digit-clause-shorter c =
    c.number_at-number.ensures.shorter c.in_ok-first.first.now c.in_ok-first.behind.now c.in_ok-first.ensures.cases.0 (sym c.is_ascii_digit.ensures.value ∙ c.if-is_ascii_digit.true)
