use Rattle.std.proofs.Common.{◌≤◌, ◌-◌, length, drop}
use Rattle.influxql_parser.proofs.PieceLemmas.{PiecesLeft}
use Rattle.influxql_parser.proofs.pieces.pieces_of.Given as goal

abbrev pub invariant-loop-at : goal.invariant-loop-at
invariant-loop-at l = PiecesLeft l.fn.now l.tokens l.pieces.items (drop l.at l.tokens) × (l.at ≤ length l.tokens)

abbrev pub decreases-loop-at : goal.decreases-loop-at
decreases-loop-at l = length l.tokens - l.at
