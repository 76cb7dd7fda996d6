use Rattle.std.proofs.Common.{◌≡◌, ◌≤◌, ◌-◌, length, drop}
use Rattle.influxql_parser.specs.GrammarPieces.{sums_at}
use Rattle.influxql_parser.proofs.moment.sums_at.Given as goal

abbrev pub invariant-loop-change : goal.invariant-loop-change
invariant-loop-change l = (sums_at l.total (drop l.at l.tokens) ≡ sums_at l.fn.base l.tokens) × (l.at ≤ length l.tokens)

abbrev pub decreases-loop-change : goal.decreases-loop-change
decreases-loop-change l = length l.tokens - l.at
