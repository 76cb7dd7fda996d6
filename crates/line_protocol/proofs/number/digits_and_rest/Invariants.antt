use Rattle.std.proofs.Common.{◌≡◌, ◌++◌, take, drop}
use Rattle.line_protocol.specs.Numbers.{digits_front, digits_behind}
use Rattle.line_protocol.proofs.number.digits_and_rest.Given as goal

abbrev pub invariant-loop-at : goal.invariant-loop-at
invariant-loop-at l = record {
  before : take l.at l.text ++ digits_front (drop l.at l.text) ≡ digits_front l.text;
  behind : digits_behind (drop l.at l.text) ≡ digits_behind l.text;
}
