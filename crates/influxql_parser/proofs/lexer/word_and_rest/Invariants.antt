use Rattle.std.proofs.Common.{◌≡◌, ◌++◌, take, drop}
use Rattle.influxql_parser.specs.Numbers.{front_passing, behind_passing}
use Rattle.influxql_parser.specs.Tokens.{is_of_word}
use Rattle.influxql_parser.proofs.lexer.word_and_rest.Given as goal

abbrev pub invariant-loop-at : goal.invariant-loop-at
invariant-loop-at l = record {
  before : take l.at l.text ++ front_passing is_of_word (drop l.at l.text) ≡ front_passing is_of_word l.text;
  behind : behind_passing is_of_word (drop l.at l.text) ≡ behind_passing is_of_word l.text;
}
