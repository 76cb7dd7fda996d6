use Rattle.std.proofs.Common.{◌≡◌, ◌≤◌, length}
use Rattle.influxql_parser.specs.Numbers.{behind_passing}
use Rattle.influxql_parser.specs.Tokens.{is_blank}
use Rattle.influxql_parser.proofs.lexer.past_blanks.Given as goal

abbrev pub invariant-loop-first : goal.invariant-loop-first
invariant-loop-first l = record {
  same : behind_passing is_blank l.left ≡ behind_passing is_blank l.text;
  shorter : length l.left ≤ length l.text;
}

abbrev pub decreases-loop-first : goal.decreases-loop-first
decreases-loop-first l = length l.left
