use Rattle.std.proofs.Common.{List, sym, subst}
use Rattle.influxql_parser.specs.Tokens.{Token}
use Rattle.influxql_parser.specs.GrammarWords.{without_semicolon}
use Rattle.influxql_parser.specs.GrammarShows.{IsShowStatement}
use Rattle.influxql_parser.proofs.TokenLemmas.{same-tokens}
use Rattle.influxql_parser.proofs.ShowLemmas.{one-statement}
use Rattle.influxql_parser.proofs.show.one_show.Goals as goal

pub returns : goal.returns
returns c = λ text what other (tokens, cut, is) (others, cuts, are).
    one-statement (without_semicolon tokens) what other is
    (subst (λ (ts : List Token). IsShowStatement (without_semicolon ts) other) (sym (same-tokens text tokens others cut cuts)) are)
