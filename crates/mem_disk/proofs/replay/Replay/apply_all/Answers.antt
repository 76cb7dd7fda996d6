use Rattle.std.proofs.Common.{List, take, arith, subst}
use Rattle.std.specs.Prelude.{reverse}
use Rattle.std.proofs.lemmas.List.{take_all}
use Rattle.mem_disk.specs.Replayed.{Replays}
use Rattle.mem_disk.specs.declared.change.Change.{Change}
use Rattle.mem_disk.proofs.Replaying.{one_more}
use Rattle.mem_disk.proofs.replay.Replay.apply_all.Goals as goal

pub loop-change-preserved : goal.loop-change-preserved
loop-change-preserved c =
    let changes = c.args.changes.now in
    let i = c.loop-change.change-index in
    subst (λ (past : List Change). Replays past c.apply.new.self.read c.apply.new.self.left) (one_more changes i c.change-item.result (omega arith) c.change-item.is)
    (c.in_ok-apply.ensures (reverse (take i changes)) c.loop-change.invariant)

pub returns : goal.returns
returns c =
    let m = c.loop-change.self in
    subst (λ (l : List Change). Replays (reverse l) m.read m.left) (take_all c.loop-change.change-index c.args.changes.now (omega arith)) c.loop-change.invariant
