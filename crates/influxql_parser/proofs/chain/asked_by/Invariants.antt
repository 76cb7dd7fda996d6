use Rattle.std.proofs.Common.{◌≡◌, Some, []}
use Rattle.influxql_parser.specs.Chains.{fresh, run, stacks}
use Rattle.influxql_parser.proofs.chain.asked_by.Given as goal

-- the pieces that are left make of what was read what all pieces make of nothing
abbrev pub invariant-loop-piece : goal.invariant-loop-piece
invariant-loop-piece l = run (stacks l.reading) l.piece-iterator.rest.items ≡ run (Some ([], fresh)) l.fn.pieces.items
