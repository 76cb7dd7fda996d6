use Rattle.std.proofs.Common.{ℤ, to_z, of_z, w64, ◌≡◌, None, Some, arith, ◌-◌, ◌≤◌, ◌<◌, length, drop, subst, sym}
use Rattle.std.proofs.lemmas.Int.{to_z-of_z}
use Rattle.influxql_parser.specs.GrammarPieces.{piece_at}
use Rattle.influxql_parser.proofs.EndLemmas.{none-behind, next-behind, end-behind}
use Rattle.influxql_parser.proofs.PieceLemmas.{PiecesLeft}
use Rattle.influxql_parser.proofs.ShowLemmas.{none-at, some-at}
use Rattle.influxql_parser.proofs.pieces.pieces_of.Goals as goal

pub returns-in-None-clause-none : goal.returns-in-None-clause-none
returns-in-None-clause-none c =
    let is_now : to_z w64 (of_z w64 c.args.now) ≡ c.args.now = to_z-of_z w64 c.args.now c.ranges.now in
    none-behind c.args.now c.args.tokens.now c.behind_place.result.now c.loop-at.pieces.items c.loop-at.at (subst (λ (n : ℤ). PiecesLeft n c.args.tokens.now c.loop-at.pieces.items (drop c.loop-at.at c.args.tokens.now)) is_now c.loop-at.invariant.0) c.behind_place.ensures
    (omega (arith, c.loop-at-test.true))
    (none-at (piece_at c.args.now c.behind_place.result.now ≡ None) c.in_ok-piece_at.field-0 c.in-None.is (simp is_now at c.in_ok-piece_at.ensures.none))

pub loop-at-preserved : goal.loop-at-preserved
loop-at-preserved c =
    let is_now : to_z w64 (of_z w64 c.args.now) ≡ c.args.now = to_z-of_z w64 c.args.now c.ranges.now in (
      subst (λ (n : ℤ). PiecesLeft n c.args.tokens.now c.push.new.self.items (drop (length c.args.tokens.now - length c.in-Some.behind.now) c.args.tokens.now)) (sym is_now) (next-behind c.args.now c.args.tokens.now c.behind_place.result.now c.in-Some.behind.now c.in-Some.piece c.loop-at.pieces.items c.push.new.self.items c.loop-at.at
          (subst (λ (n : ℤ). PiecesLeft n c.args.tokens.now c.loop-at.pieces.items (drop c.loop-at.at c.args.tokens.now)) is_now c.loop-at.invariant.0) c.behind_place.ensures c.loop-at.invariant.1 (simp (is_now, c.in-Some.is) at c.in_ok-piece_at.ensures.found) c.in_ok-push-in-Some.ensures.items),
      omega arith,
    )

pub returns-clause-found : goal.returns-clause-found
returns-clause-found c =
    let is_now : to_z w64 (of_z w64 c.args.now) ≡ c.args.now = to_z-of_z w64 c.args.now c.ranges.now in
    end-behind c.args.now c.args.tokens.now c.loop-at.pieces.items c.loop-at.at (subst (λ (n : ℤ). PiecesLeft n c.args.tokens.now c.loop-at.pieces.items (drop c.loop-at.at c.args.tokens.now)) is_now c.loop-at.invariant.0) (omega (arith, c.loop-at-test.false))
