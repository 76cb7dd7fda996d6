use Rattle.std.proofs.Common.{ap, ◌∙◌, rules, arith}
use Rattle.history_turn.proofs.RuleLemmas.{joins}
use Rattle.history_turn.proofs.turn.Turn.join.Goals as goal

pub join_seat-requires : goal.join_seat-requires
join_seat-requires g c =
    let C = g.V.Counted in
    let some_part = c.pass.invariant.some_part in
    let parts_are = c.pass.invariant.parts_are in
    let rests = ap (λ p. p.view.has_turn) c.other.view_is ∙ c.requires.other.1 in (
      search rules,
      search rules,
      search rules,
      search rules,
      joins C.stands C.first C.first_faults C.faults_of C.loans_of C.nowhere _ c.pass.inside.seat.me.0 _ c.other.inside.seat.me.0 (omega arith) rests,
    )
