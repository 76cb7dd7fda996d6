use Rattle.std.proofs.Common.{◌≡◌, ◌++◌, take, drop}
use Rattle.std.specs.Char.{is_ascii_digit}
use Rattle.influxql_parser.specs.Numbers.{front_passing, behind_passing}
use Rattle.influxql_parser.proofs.number.digits_and_rest.Given as goal

abbrev pub invariant-loop-at : goal.invariant-loop-at
invariant-loop-at l = record {
  before : take l.at l.text ++ front_passing is_ascii_digit (drop l.at l.text) ≡ front_passing is_ascii_digit l.text;
  behind : behind_passing is_ascii_digit (drop l.at l.text) ≡ behind_passing is_ascii_digit l.text;
}
