use Rattle.std.proofs.Common.{◌≡◌, length}
use Rattle.influxql_parser.specs.Facts.{facts_from, nothing_told}
use Rattle.influxql_parser.proofs.facts.facts_of.Given as goal

abbrev pub invariant-loop-last : goal.invariant-loop-last
invariant-loop-last l = facts_from l.left l.facts ≡ facts_from l.pieces nothing_told

abbrev pub decreases-loop-last : goal.decreases-loop-last
decreases-loop-last l = length l.left
