use Rattle.std.proofs.Common.{arith, []}
use Rattle.history_turn.proofs.RuleLemmas.{opens}
use Rattle.history_turn.proofs.turn.Turn.new.Goals as goal

pub new-requires : goal.new-requires
new-requires g c =
    let C = g.V.Counted in
    let room = c.faults.ensures.room in
    let value = c.faults.ensures.value in
    rw (c.of-about.ensures, value, c.in_default.ensures.items, c.new-slots.ensures.items)
    (opens C.stands C.first C.first_faults C.faults_of C.loans_of c.args.value (C.start c.args.value) _ c.requires.stands c.requires.loans c.requires.faults (omega arith) (c.number.ensures _ [] c.requires.stands))
