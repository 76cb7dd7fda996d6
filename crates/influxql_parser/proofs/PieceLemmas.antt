-- Tokens are cut into pieces in one way, and each piece takes some.
use Rattle.std.proofs.Common.{◌≡◌, ℤ, Option, Some, None, List, [], ◌∷◌, ◌++◌, refl, sym, ap, subst, ◌∙◌}
use Rattle.std.proofs.lemmas.List.{append_assoc, append-nil}
use Rattle.influxql_parser.specs.declared.piece.Piece.{Piece}
use Rattle.influxql_parser.specs.Tokens.{Token}
use Rattle.influxql_parser.specs.GrammarPieces.{ArePieces, piece_at}
use Rattle.influxql_parser.proofs.ShowLemmas.{none≢some}

-- The pieces so far, with those of the rest behind them, are those of all tokens, and these have no others.
pub record PiecesLeft (now : ℤ) (tokens : List Token) (pieces : List Piece) (left : List Token) : Type 0 where
  pub sound : (more : List Piece) → ArePieces now more left [] → ArePieces now (pieces ++ more) tokens []
  pub only : (all : List Piece) → ArePieces now all tokens [] → (more : List Piece) × (all ≡ pieces ++ more) × ArePieces now more left []

pub pieces-all : (now : ℤ) (tokens : List Token) → PiecesLeft now tokens [] tokens
pieces-all now tokens = record { sound = λ more are. are; only = λ all are. (all, refl, are) }

same-piece : (piece : Piece) (behind : List Token) (found : Option (Piece × List Token)) → found ≡ Some (piece, behind) →
    (other : Piece) (rest : List Token) → found ≡ Some (other, rest) → (other ≡ piece) × (rest ≡ behind)
same-piece piece behind found at other rest cut =
    let same : Some (other, rest) ≡ Some (piece, behind) = sym cut ∙ at in
    (ap (λ (o : Option (Piece × List Token)). first piece o) same, ap (λ (o : Option (Piece × List Token)). second behind o) same)
  where
    first : Piece → Option (Piece × List Token) → Piece
    first d None = d
    first d (Some p) = p.0

    second : List Token → Option (Piece × List Token) → List Token
    second d None = d
    second d (Some p) = p.1

-- where no token is left no piece is
empty-none : (now : ℤ) (piece : Piece) (behind : List Token) → piece_at now [] ≡ Some (piece, behind) → ⊥
empty-none now piece behind cut = none≢some (piece, behind) cut

pub pieces-next : (now : ℤ) (tokens : List Token) (pieces : List Piece) (left behind : List Token) (piece : Piece) → PiecesLeft now tokens pieces left →
    piece_at now left ≡ Some (piece, behind) → PiecesLeft now tokens (pieces ++ piece ∷ []) behind
pieces-next now tokens pieces left behind piece before at = record {
  sound = λ more are. subst (λ (ps : List Piece). ArePieces now ps tokens []) (sym (append_assoc pieces (piece ∷ []) more)) (before.sound (piece ∷ more) (behind, at, are));
  only = λ all are. go all (before.only all are);
}
  where
    step : (all more : List Piece) → all ≡ pieces ++ more → ArePieces now more left [] →
        (rest : List Piece) × (all ≡ (pieces ++ piece ∷ []) ++ rest) × ArePieces now rest behind []
    step all [] same none = absurd (empty-none now piece behind (ap (λ (ts : List Token). piece_at now ts) (sym none) ∙ at))
    step all (other ∷ more) same (rest, found, are) =
        let is = same-piece piece behind (piece_at now left) at other rest found in (
          more,
          same ∙ ap (λ (p : Piece). pieces ++ p ∷ more) is.0 ∙ sym (append_assoc pieces (piece ∷ []) more),
          subst (λ (ts : List Token). ArePieces now more ts []) is.1 are,
        )

    go : (all : List Piece) → (more : List Piece) × (all ≡ pieces ++ more) × ArePieces now more left [] →
        (rest : List Piece) × (all ≡ (pieces ++ piece ∷ []) ++ rest) × ArePieces now rest behind []
    go all (more, same, are) = step all more same are

-- where no piece can be cut, no pieces are those of the tokens
pub pieces-none : (now : ℤ) (tokens : List Token) (pieces : List Piece) (left : List Token) → PiecesLeft now tokens pieces left → (left ≡ [] → ⊥) →
    piece_at now left ≡ None → (all : List Piece) → ArePieces now all tokens [] → ⊥
pieces-none now tokens pieces left before some none all are = go (before.only all are)
  where
    step : (more : List Piece) → ArePieces now more left [] → ⊥
    step [] is = some is
    step (other ∷ more) (rest, found, rests) = none≢some (other, rest) (sym none ∙ found)

    go : (more : List Piece) × (all ≡ pieces ++ more) × ArePieces now more left [] → ⊥
    go (more, same, mores) = step more mores

pub pieces-end : (now : ℤ) (tokens : List Token) (pieces : List Piece) (left : List Token) → PiecesLeft now tokens pieces left → left ≡ [] → ArePieces now pieces tokens []
pieces-end now tokens pieces left before none = subst (λ (ps : List Piece). ArePieces now ps tokens []) (append-nil pieces) (before.sound [] none)

-- tokens have one list of pieces
pub same-pieces : (now : ℤ) (tokens : List Token) (pieces others : List Piece) → ArePieces now pieces tokens [] → ArePieces now others tokens [] → pieces ≡ others
same-pieces now tokens [] [] none empty = refl
same-pieces now tokens [] (other ∷ others) none (rest, found, are) =
    absurd (empty-none now other rest (ap (λ (ts : List Token). piece_at now ts) (sym none) ∙ found))
same-pieces now tokens (piece ∷ pieces) [] (rest, found, are) none =
    absurd (empty-none now piece rest (ap (λ (ts : List Token). piece_at now ts) (sym none) ∙ found))
same-pieces now tokens (piece ∷ pieces) (other ∷ others) (behind, at, are) (rest, found, ares) =
    let is = same-piece piece behind (piece_at now tokens) at other rest found in
    let tail = same-pieces now behind pieces others are (subst (λ (ts : List Token). ArePieces now others ts []) is.1 ares) in
    ap (λ (p : Piece). p ∷ pieces) (sym is.0) ∙ ap (λ (ps : List Piece). other ∷ ps) tail
