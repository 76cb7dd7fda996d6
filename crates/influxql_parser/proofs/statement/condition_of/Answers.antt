use Rattle.std.proofs.Common.{Bool, true, false, List, refl, sym, ap, subst, ◌≡◌, ◌∙◌}
use Rattle.std.specs.Prelude.{not}
use Rattle.influxql_parser.specs.declared.piece.Piece.{Piece}
use Rattle.influxql_parser.specs.Facts.{HasRoom, facts_from, nothing_told}
use Rattle.influxql_parser.specs.GrammarConditions.{nests_within}
use Rattle.influxql_parser.proofs.StatementLemmas.{asked-where, not-allowed, not-asked, not-true, not-false}
use Rattle.influxql_parser.proofs.statement.condition_of.Goals as goal

pub returns-then-not-facts-clause-none : goal.returns-then-not-facts-clause-none
returns-then-not-facts-clause-none c =
    not-allowed c.args.pieces.items c.facts_of-facts.result (c.facts_of-facts.ensures ∙ ap (λ (ps : List Piece). facts_from ps nothing_told) c.as_slice.ensures.value)
    (not-true c.facts_of-facts.result.allowed c.if-not-facts.true)

pub returns-in-None-clause-none : goal.returns-in-None-clause-none
returns-in-None-clause-none c = not-asked c.args.pieces.items (sym c.in_ok-asked_by.ensures ∙ c.in-None.is)

pub returns-in-Some-clause-found : goal.returns-in-Some-clause-found
returns-in-Some-clause-found c =
    asked-where c.args.pieces.items _ c.nests_within.result
    (sym c.in-Some.is ∙ c.in_ok-asked_by.ensures)
    (c.facts_of-facts.ensures ∙ ap (λ (ps : List Piece). facts_from ps nothing_told) c.as_slice.ensures.value)
    (not-false c.facts_of-facts.result.allowed c.if-not-facts.false)
    (c.nests_within.ensures ∙ ap (λ (ps : List Piece). nests_within 0 ps) c.as_slice-2.ensures.value)
    c.if-not-nests_within.false
    (λ fits. subst (λ (ps : List Piece). HasRoom ps) c.as_slice-3.ensures.value (c.has_room-fits.ensures fits))
