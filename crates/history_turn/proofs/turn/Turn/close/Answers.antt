use Rattle.std.proofs.Common.{sym, ap, ◌∙◌}
use Rattle.history_turn.proofs.RuleLemmas.{closed_value, closed_at}
use Rattle.history_turn.proofs.turn.Turn.close.Goals as goal

pub unreachable-requires : goal.unreachable-requires
unreachable-requires g c =
    let C = g.V.Counted in
    let whole = ap (λ p. p.view.parts) c.pass.view_is ∙ c.requires.whole in
    let rests = ap (λ p. p.view.has_turn) c.pass.view_is ∙ c.requires.without_turn in
    let k = closed_value C.stands C.first C.first_faults C.faults_of C.loans_of _ _ _ _ _ c.close_with-closed.ensures.values.2 c.take-value.ensures.value whole rests in
    let is = sym c.in-None.is ∙ k.1 in
    absurd (cc)

pub returns : goal.returns
returns g c =
    let C = g.V.Counted in
    let whole = ap (λ p. p.view.parts) c.pass.view_is ∙ c.requires.whole in
    let rests = ap (λ p. p.view.has_turn) c.pass.view_is ∙ c.requires.without_turn in
    let k = closed_value C.stands C.first C.first_faults C.faults_of C.loans_of _ _ _ _ _ c.close_with-closed.ensures.values.2 c.take-value.ensures.value whole rests in
    rw (← c.pass.view_is) (closed_at C.stands C.first C.first_faults C.faults_of C.loans_of _ _ _ _ k.1 c.in-Some.is k.2)
