use Rattle.std.proofs.Common.{◌≡◌, ◌≤◌, length}
use Rattle.influxql_parser.specs.GrammarConditions.{nests_within}
use Rattle.influxql_parser.proofs.facts.nests_within.Given as goal

abbrev pub invariant-loop-first : goal.invariant-loop-first
invariant-loop-first l = (nests_within l.depth l.left ≡ nests_within 0 l.pieces) × (l.depth ≤ 64)

abbrev pub decreases-loop-first : goal.decreases-loop-first
decreases-loop-first l = length l.left
