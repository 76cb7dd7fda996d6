use Rattle.std.proofs.Common.{ℤ, to_z, of_z, w64, ◌≡◌, Vec, Global, []}
use Rattle.std.proofs.lemmas.Int.{to_z-of_z}
use Rattle.influxql_parser.specs.declared.piece.Piece.{Piece}
use Rattle.influxql_parser.specs.GrammarPieces.{ArePieces}
use Rattle.influxql_parser.specs.Reads.{HasNoCondition, IsOfPieces}
use Rattle.influxql_parser.proofs.DeletionLemmas.{condition-none}
use Rattle.influxql_parser.proofs.ShowLemmas.{none-at, some-at}
use Rattle.influxql_parser.proofs.statement.condition_in.Goals as goal

pub returns-in-None-2-clause-none : goal.returns-in-None-2-clause-none
returns-in-None-2-clause-none c =
    let is_now : to_z w64 (of_z w64 c.args.now) ≡ c.args.now = to_z-of_z w64 c.args.now c.ranges.now in
    condition-none c.args.now c.args.tokens.now c.in-Some.pieces.items
    (some-at (λ (v : Vec Piece Global). ArePieces c.args.now v.items c.args.tokens.now []) c.in_ok-pieces_of.field-0 c.in-Some.pieces c.in-Some.is (simp is_now at c.in_ok-pieces_of.ensures.found))
    (none-at (HasNoCondition (IsOfPieces c.in-Some.pieces.items)) c.in_ok-condition_of-in-Some.field-0 c.in-None-2.is c.in_ok-condition_of-in-Some.ensures.none)
