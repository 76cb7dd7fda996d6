use Rattle.std.proofs.Common.{List, sym, subst}
use Rattle.influxql_parser.specs.Tokens.{Token}
use Rattle.influxql_parser.proofs.TokenLemmas.{TokensLeft, tokens-next, tokens-none, tokens-end}
use Rattle.influxql_parser.proofs.lexer.tokens_of.Goals as goal

pub returns-in-None-clause-none : goal.returns-in-None-clause-none
returns-in-None-clause-none c = λ tokens are.
    tokens-none c.args.text.now c.loop-ahead.tokens.items c.loop-ahead.left.now c.in-Some.ahead.now c.loop-ahead.invariant c.in-Some.ensures.found.0 c.in-Some.ensures.found.1 c.in-None.ensures.none tokens are

pub loop-ahead-preserved : goal.loop-ahead-preserved
loop-ahead-preserved c =
    subst (λ (ts : List Token). TokensLeft c.args.text.now ts c.in-Some-token_at.behind.now) (sym c.in_ok-push-in-Some-token_at.ensures.items)
    (tokens-next c.args.text.now c.loop-ahead.tokens.items c.loop-ahead.left.now c.in-Some.ahead.now c.in-Some-token_at.behind.now c.in-Some-token_at.token c.loop-ahead.invariant c.in-Some.ensures.found.0 c.in-Some-token_at.ensures.found)

pub returns-clause-found : goal.returns-clause-found
returns-clause-found c = tokens-end c.args.text.now c.loop-ahead.tokens.items c.loop-ahead.left.now c.loop-ahead.invariant c.in_default.ensures.none
