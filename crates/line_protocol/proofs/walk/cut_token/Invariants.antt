use Rattle.std.proofs.Common.{◌≡◌, ◌++◌, false, take, drop}
use Rattle.line_protocol.specs.Tokens.{front_where, rest_where, token_ends}
use Rattle.line_protocol.proofs.walk.cut_token.Given as goal

abbrev pub invariant-loop-at : goal.invariant-loop-at
invariant-loop-at l = record {
  before : take l.at l.text ++ front_where (token_ends l.in_tag) l.slash (drop l.at l.text) ≡ front_where (token_ends l.in_tag) false l.text;
  behind : rest_where (token_ends l.in_tag) l.slash (drop l.at l.text) ≡ rest_where (token_ends l.in_tag) false l.text;
}
