use Rattle.std.proofs.Common.{◌≤◌, ◌+◌, length}
use Rattle.influxql_parser.specs.Facts.{AreShort, size_of_all}
use Rattle.influxql_parser.proofs.facts.has_room.Given as goal

-- the pieces that were passed are short, and took no more room than is gone
abbrev pub invariant-loop-first : goal.invariant-loop-first
invariant-loop-first l = (AreShort l.left → AreShort l.pieces) × (size_of_all l.pieces + l.room ≤ 1073676258 + size_of_all l.left)

abbrev pub decreases-loop-first : goal.decreases-loop-first
decreases-loop-first l = length l.left
