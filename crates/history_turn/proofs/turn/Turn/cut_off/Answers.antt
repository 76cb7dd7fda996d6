use Rattle.std.proofs.Common.{rules}
use Rattle.history_turn.proofs.RuleLemmas.{splits}
use Rattle.history_turn.proofs.turn.Turn.cut_off.Goals as goal

pub split_seat-requires : goal.split_seat-requires
split_seat-requires g c =
    let C = g.V.Counted in
    let p = c.requires.parts in (
      search rules,
      search rules,
      rw c.requires.size (splits C.stands C.first C.first_faults C.faults_of C.loans_of _ c.args.seat.now.me.0 _ p.0 p.1 c.requires.without_turn),
    )
