use Rattle.std.proofs.Common.{rules, ap, ◌∙◌, Ok}
use Rattle.shard_disk.specs.HandedOut.{HandedOut}
use Rattle.manifest_log.specs.Format.{edit_bytes}
use Rattle.wal_store.specs.Segments.{Segments}
use Rattle.shard_state.specs.Creating.{first_changes}
use Rattle.shard_state.proofs.Naming.{crash_named, crash_none, may_follow, opened}
use Rattle.shard_state.proofs.first_files.name_files.Goals as goal

pub returns-in_err-frame-clause-crash : goal.returns-in_err-frame-clause-crash
returns-in_err-frame-clause-crash g c =
    let laws = g.met.D.Disk g.world.𝓛 g.world.𝓜 g.world.𝓡 ((λ s x. x), (λ x. x), (λ x. x), (λ x. x)) in
    λ told new. crash_none g.D.Disk c.args.disk.now c.args.files c.requires told new (laws.only_now c.args.disk.now)

pub returns-in_err-wal-clause-crash : goal.returns-in_err-wal-clause-crash
returns-in_err-wal-clause-crash g c =
    let laws = g.met.D.Disk g.world.𝓛 g.world.𝓜 g.world.𝓡 ((λ s x. x), (λ x. x), (λ x. x), (λ x. x)) in
    λ told new. crash_none g.D.Disk c.args.disk.now c.args.files c.requires told new (laws.only_now c.args.disk.now)

pub edit-requires-clause-may : goal.edit-requires-clause-may
edit-requires-clause-may g c = search (rules, may_follow g.D.Disk c.args.disk.now c.args.files c.requires c.in_ok-frame.frame (c.in_ok-frame.ensures ∙ (λ i. edit_bytes (first_changes (c.file.ensures i) (c.file-2.ensures i)))))

pub returns-in_err-edit-clause-crash : goal.returns-in_err-edit-clause-crash
returns-in_err-edit-clause-crash g c = λ told new. crash_named g.D.Disk c.args.disk.now c.args.files c.requires told new c.in_ok-frame.frame (c.in_ok-frame.ensures ∙ (λ i. edit_bytes (first_changes (c.file.ensures i) (c.file-2.ensures i)))) c.edit.new.disk c.edit.new.self.log c.edit.result c.edit.ensures

pub returns-clause-opened : goal.returns-clause-opened
returns-clause-opened g c = λ told new alloc. opened g.D.Disk c.args.disk.now c.args.files c.requires told new c.in_ok-frame.frame (c.in_ok-frame.ensures ∙ (λ i. edit_bytes (first_changes (c.file.ensures i) (c.file-2.ensures i)))) c.edit.new.disk c.edit.new.self.log (Ok tt) c.in_ok-edit.ensures alloc c.new.result c.in_ok-wal.wal
    c.new.ensures.keys c.new.ensures.log (ap (λ (w : Segments). w.log) c.in_ok-wal.ensures) (ap (λ (w : Segments). w.files) c.in_ok-wal.ensures) c.in_ok-edit.ensures.ok

pub returns-clause-crash : goal.returns-clause-crash
returns-clause-crash g c = λ told new. crash_named g.D.Disk c.args.disk.now c.args.files c.requires told new c.in_ok-frame.frame (c.in_ok-frame.ensures ∙ (λ i. edit_bytes (first_changes (c.file.ensures i) (c.file-2.ensures i)))) c.edit.new.disk c.edit.new.self.log c.edit.result c.edit.ensures

pub returns-in_err-edit-clause-readers : goal.returns-in_err-edit-clause-readers
returns-in_err-edit-clause-readers g c = ap (λ (h : HandedOut). h.readers) c.edit.ensures.handed_out

pub returns-clause-readers : goal.returns-clause-readers
returns-clause-readers g c = ap (λ (h : HandedOut). h.readers) c.edit.ensures.handed_out
