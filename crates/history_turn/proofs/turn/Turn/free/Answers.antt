use Rattle.std.proofs.Common.{rules}
use Rattle.history_turn.proofs.RuleLemmas.{frees}
use Rattle.history_turn.proofs.turn.Turn.free.Goals as goal

pub swap-requires : goal.swap-requires
swap-requires g c =
    let v = c.args.seat.now.me.0 in
    let t = c.requires.with_turn in
    let x = c.requires.value in
    let f = c.requires.faults in
    let C = g.V.Counted in (
      search rules,
      search rules,
      rw (c.self.invariant.1, x.1) (frees C.stands C.first C.first_faults C.faults_of C.loans_of _ v x.0 _ _ t.0 t.1 x.2 x.3 f.0 f.1 x.4),
    )
