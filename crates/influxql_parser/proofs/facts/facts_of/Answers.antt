use Rattle.std.proofs.Common.{List, sym, ap, ◌∙◌}
use Rattle.influxql_parser.specs.declared.facts.Facts.{Facts}
use Rattle.influxql_parser.specs.declared.piece.Piece.{Piece}
use Rattle.influxql_parser.specs.Facts.{facts_from}
use Rattle.influxql_parser.proofs.FactLemmas.{facts-last}
use Rattle.influxql_parser.proofs.facts.facts_of.Goals as goal

pub loop-last-preserved : goal.loop-last-preserved
loop-last-preserved c =
    ap (λ (f : Facts). facts_from c.in-Some.front.now f) c.with_piece-facts.ensures
    ∙ sym (facts-last c.in-Some.front.now c.in-Some.last.now c.loop-last.facts)
    ∙ ap (λ (ps : List Piece). facts_from ps c.loop-last.facts) (sym c.in-Some.ensures.cases.0)
    ∙ c.loop-last.invariant
