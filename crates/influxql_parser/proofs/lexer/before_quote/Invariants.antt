use Rattle.std.proofs.Common.{◌≡◌, ◌++◌, false, take, drop}
use Rattle.influxql_parser.specs.Tokens.{before_quote, from_quote}
use Rattle.influxql_parser.proofs.lexer.before_quote.Given as goal

abbrev pub invariant-loop-at : goal.invariant-loop-at
invariant-loop-at l = record {
  before : take l.at l.text ++ before_quote l.quote l.escaped (drop l.at l.text) ≡ before_quote l.quote false l.text;
  behind : from_quote l.quote l.escaped (drop l.at l.text) ≡ from_quote l.quote false l.text;
}
