use Rattle.std.proofs.Common.{◌≡◌, ℕ, List, ◌∷◌, Option, Some, sym, subst, ap, refl, rules}
use Rattle.atomic_table.specs.Table.{rest}
use Rattle.history_turn.proofs.RuleLemmas.{takes_turn}
use Rattle.history_turn.proofs.turn.Turn.lift.Goals as goal

pub swap-requires : goal.swap-requires
swap-requires g c =
    let C = g.V.Counted in (
      search rules,
      search rules,
      rw (c.self.invariant.1) (takes_turn C.stands C.first C.first_faults C.faults_of C.loans_of _ _ c.requires.part),
    )

pub exchange-requires : goal.exchange-requires
exchange-requires g c =
    let t = c.swap.ensures.2.1 (search rules) in
    let P : List (ℕ × Option g.row.V.Denot) → Type 0 = λ l. l ≡ (0, Some t.0) ∷ rest l in
    (search rules, (Some t.0, subst P (sym (ap (λ m. m.1) t.1.now)) refl))
