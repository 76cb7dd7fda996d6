use Rattle.std.proofs.Common.{◌≤◌, length}
use Rattle.influxql_parser.proofs.NumberLemmas.{PartsLeft}
use Rattle.influxql_parser.proofs.number.parts_at.Given as goal

abbrev pub invariant-loop-part : goal.invariant-loop-part
invariant-loop-part l = record {
  left : PartsLeft l.fn.nanoseconds l.text l.total l.left;
  shorter : length l.left ≤ length l.text;
}

abbrev pub decreases-loop-part : goal.decreases-loop-part
decreases-loop-part l = length l.left
