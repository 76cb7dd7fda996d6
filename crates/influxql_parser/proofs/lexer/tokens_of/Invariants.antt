use Rattle.std.proofs.Common.{length}
use Rattle.influxql_parser.proofs.TokenLemmas.{TokensLeft}
use Rattle.influxql_parser.proofs.lexer.tokens_of.Given as goal

abbrev pub invariant-loop-ahead : goal.invariant-loop-ahead
invariant-loop-ahead l = TokensLeft l.text l.tokens.items l.left

abbrev pub decreases-loop-ahead : goal.decreases-loop-ahead
decreases-loop-ahead l = length l.left
