use Rattle.std.proofs.Common.{◌≡◌, List, [], ◌∷◌, ◌++◌, refl, sym, ap, ◌∙◌}
use Rattle.influxql_parser.specs.declared.facts.Facts.{Facts}
use Rattle.influxql_parser.specs.declared.piece.Piece.{Piece}
use Rattle.influxql_parser.specs.Facts.{facts_from, with_piece}

pub facts-last : (front : List Piece) (last : Piece) (facts : Facts) → facts_from (front ++ last ∷ []) facts ≡ facts_from front (with_piece last facts)
facts-last [] last facts = refl
facts-last (p ∷ ps) last facts = ap (λ (f : Facts). with_piece p f) (facts-last ps last facts)
