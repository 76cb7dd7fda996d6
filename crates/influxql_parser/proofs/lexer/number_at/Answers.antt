use Rattle.influxql_parser.proofs.TokenLemmas.{digits-shorter}
use Rattle.influxql_parser.proofs.lexer.number_at.Goals as goal

pub returns-in-None-clause-shorter : goal.returns-in-None-clause-shorter
returns-in-None-clause-shorter c = λ byte behind same is.
    digits-shorter c.args.text.now byte behind c.digits_and_rest.result.1.now same is c.digits_and_rest.ensures.behind
