use Rattle.std.proofs.Common.{◌∷◌, sym, subst}
use Rattle.shard_disk.specs.Directory.{Directory}
use Rattle.manifest_log.specs.Edits.{names}
use Rattle.shard_state.specs.Crashes.{LeavesOnly}
use Rattle.shard_state.specs.Engine.{IsReady}
use Rattle.shard_state.specs.Meaning.{Stands}
use Rattle.shard_recover.specs.Opening.{HasOnly, Opens, Removes}
use Rattle.shard_recover.proofs.SparedLemmas.{joined, leaves_spared, opens_spared, ready_spared}
use Rattle.shard_recover.proofs.joining.join.Goals as goal

pub returns-in-Ok-clause-ok : goal.returns-in-Ok-clause-ok
returns-in-Ok-clause-ok g c = λ told state opens.
    subst (λ l. Opens g.D.Disk state l) (sym (joined c.args.alloc c.remove_unnamed.new.disk c.args.parts c.last-number.result c.new.result c.last-number.ensures c.new.ensures))
    (opens_spared g.D.Disk c.args.alloc c.args.disk c.remove_unnamed.new.disk c.args.parts told state opens c.remove_unnamed.ensures.removes)

pub returns-in-Ok-clause-ready : goal.returns-in-Ok-clause-ready
returns-in-Ok-clause-ready g c =
    subst (IsReady g.D.Disk) (sym (joined c.args.alloc c.remove_unnamed.new.disk c.args.parts c.last-number.result c.new.result c.last-number.ensures c.new.ensures))
    (ready_spared g.D.Disk c.args.alloc c.args.disk c.remove_unnamed.new.disk c.args.parts c.requires.ready c.remove_unnamed.ensures.removes)

pub returns-in-Ok-clause-crash : goal.returns-in-Ok-clause-crash
returns-in-Ok-clause-crash g c = λ told state opens.
    subst (λ l. LeavesOnly (λ (d : Directory). Stands d state) (g.D.Disk.crashes c.args.disk) (g.D.Disk.crashes l.disk)) (sym c.new.ensures)
    (leaves_spared g.D.Disk c.args.alloc c.args.disk c.remove_unnamed.new.disk c.args.parts told state opens c.remove_unnamed.ensures.removes)

pub returns-in-Err-clause-crash : goal.returns-in-Err-clause-crash
returns-in-Err-clause-crash g c = λ told state opens.
    leaves_spared g.D.Disk c.args.alloc c.args.disk c.remove_unnamed.new.disk c.args.parts told state opens c.remove_unnamed.ensures.removes

pub returns-in-Ok-clause-removes : goal.returns-in-Ok-clause-removes
returns-in-Ok-clause-removes g c = subst (λ l. Removes g.D.Disk (0 ∷ names c.args.parts.named) c.args.disk l.disk) (sym c.new.ensures) c.remove_unnamed.ensures.removes

pub returns-in-Ok-clause-gone : goal.returns-in-Ok-clause-gone
returns-in-Ok-clause-gone g c = λ told. subst (λ l. HasOnly (0 ∷ names c.args.parts.named) (g.D.Disk.files l.disk)) (sym c.new.ensures) (c.in-Ok.ensures.gone told)
