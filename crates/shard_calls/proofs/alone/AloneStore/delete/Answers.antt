-- A deletion of the engine is an entry of the store, and a refusal leaves both and notes what was tried.
use Rattle.std.proofs.Common.{sym, ap, subst, ◌∙◌, List}
use Rattle.std.specs.declared.snapshot.Snapshot.{Snapshot}
use Rattle.point_model.specs.Histories.{State}
use Rattle.point_model.specs.declared.deletion.Deletion.{Deletion}
use Rattle.point_model.specs.declared.entry.Entry.TheVariants.{Delete}
use Rattle.store_trait.specs.Calls.Delete.{DeleteHasCause, MayBeTried}
use Rattle.store_trait.specs.Calls.Entry.{Accepts}
use Rattle.store_trait.specs.Notes.{entries_of, entry_noted}
use Rattle.store_trait.specs.Told.{Refuses}
use Rattle.store_trait.specs.declared.note.EntryNote.{EntryNote}
use Rattle.store_trait.specs.declared.note.EntryNote.TheVariants.{Deleted}
use Rattle.shard_calls.specs.Attempts.{deletion_attempt_of, entries_tried, entry_tried}
use Rattle.shard_calls.specs.Holds.{Holds}
use Rattle.shard_calls.specs.Told.{Seen, told_of}
use Rattle.shard_calls.specs.declared.noting.NotedAttempt.{NotedAttempt}
use Rattle.shard_calls.proofs.CountLemmas.{noted}
use Rattle.shard_calls.proofs.StoreLemmas.{accepts, attempt_at, delete_cause, delete_makes, delete_makes_none, delete_stayed, delete_tries, holds_more, holds_same, if_deletion_refused, refuses, same_attempt, tried_noted}
use Rattle.shard_calls.proofs.alone.AloneStore.delete.Goals as goal

pub invariant_of-self-in-Err : goal.invariant_of-self-in-Err
invariant_of-self-in-Err g c =
    subst (λ (l : List EntryNote). Holds g.D.Disk g.B.Site.is_sound g.B.Site.start g.B.Site.series g.B.Site.handed_out (entries_of c.self.inside.client l) (entries_tried c.self.inside.client c.add_attempt.new.tried.items) c.delete.new.shard) (sym c.reserve.ensures.items)
    (holds_same g.D.Disk g.B.Site.is_sound g.B.Site.start g.B.Site.series g.B.Site.handed_out (entries_of c.self.inside.client c.self.inside.notes.items) (entries_tried c.self.inside.client c.self.inside.tried.items)
    (entry_tried c.self.inside.client c.number.result (deletion_attempt_of c.in-Err.refusal (Deleted c.of-in-Err.result))) (entries_tried c.self.inside.client c.add_attempt.new.tried.items) c.self.inside.shard c.delete.new.shard
    (Delete c.self.inside.client c.args.deletion.now) _ c.self.invariant
    (delete_makes_none g.D.Disk (Delete c.self.inside.client c.args.deletion.now) c.self.inside.shard c.delete.new.shard c.in-Err.ensures.err c.delete.ensures.kept) c.delete.ensures.ready
    (delete_stayed g.D.Disk _ c.self.inside.client c.number.result (Delete c.self.inside.client c.args.deletion.now) (Deleted c.of-in-Err.result) c.self.inside.shard c.delete.new.shard c.in-Err.refusal
    (same_attempt c.number.result c.self.inside.shard.logs.number (entry_noted c.self.inside.client (Deleted c.of-in-Err.result)) (Delete c.self.inside.client c.args.deletion.now) (c.number.ensures ∙ ap (λ (s : State). s.number) c.in-Err.ensures.err)
    (ap (λ (deletion : Deletion). Delete c.self.inside.client deletion) c.of-in-Err.ensures)) c.in-Err.ensures.goes_on.stays c.in-Err.ensures.goes_on.untouched)
    c.delete.ensures.kept.handed_out
    (tried_noted c.self.inside.client c.number.result c.self.inside.tried.items c.reserve-2.new.self.items c.add_attempt.new.tried.items c.deletion_attempt-tried.result (deletion_attempt_of c.in-Err.refusal (Deleted c.of-in-Err.result))
    c.reserve-2.ensures.items c.add_attempt.ensures c.deletion_attempt-tried.ensures))

pub returns-in-Err-clause-err : goal.returns-in-Err-clause-err
returns-in-Err-clause-err g c =
    subst (λ (s : Seen). Refuses (Delete s.told.client c.args.deletion.now) (MayBeTried c.in-Err.refusal) s.told (told_of c.self.inside.client g.B.Site.start g.B.Site.series (entries_of c.self.inside.client c.reserve.new.self.items) (entries_tried c.self.inside.client c.add_attempt.new.tried.items) c.delete.new.shard)) c.self.view_is
    (subst (λ (l : List EntryNote). Refuses (Delete c.self.inside.client c.args.deletion.now) (MayBeTried c.in-Err.refusal) (told_of c.self.inside.client g.B.Site.start g.B.Site.series (entries_of c.self.inside.client c.self.inside.notes.items) (entries_tried c.self.inside.client c.self.inside.tried.items) c.self.inside.shard)
    (told_of c.self.inside.client g.B.Site.start g.B.Site.series (entries_of c.self.inside.client l) (entries_tried c.self.inside.client c.add_attempt.new.tried.items) c.delete.new.shard)) (sym c.reserve.ensures.items)
    (refuses g.D.Disk g.B.Site.is_sound g.B.Site.start g.B.Site.series g.B.Site.handed_out c.self.inside.client (entries_of c.self.inside.client c.self.inside.notes.items) (entries_tried c.self.inside.client c.self.inside.tried.items)
    (entry_tried c.self.inside.client c.number.result (deletion_attempt_of c.in-Err.refusal (Deleted c.of-in-Err.result))) (entries_tried c.self.inside.client c.add_attempt.new.tried.items) (Delete c.self.inside.client c.args.deletion.now) (MayBeTried c.in-Err.refusal) c.self.inside.shard c.delete.new.shard c.self.invariant
    (delete_makes_none g.D.Disk (Delete c.self.inside.client c.args.deletion.now) c.self.inside.shard c.delete.new.shard c.in-Err.ensures.err c.delete.ensures.kept)
    (delete_tries c.self.inside.client c.number.result (entries_tried c.self.inside.client c.self.inside.tried.items) (attempt_at c.self.inside.shard.logs.number (Delete c.self.inside.client c.args.deletion.now)) (Deleted c.of-in-Err.result)
    (same_attempt c.number.result c.self.inside.shard.logs.number (entry_noted c.self.inside.client (Deleted c.of-in-Err.result)) (Delete c.self.inside.client c.args.deletion.now) (c.number.ensures ∙ ap (λ (s : State). s.number) c.in-Err.ensures.err)
    (ap (λ (deletion : Deletion). Delete c.self.inside.client deletion) c.of-in-Err.ensures)) c.in-Err.refusal)
    (tried_noted c.self.inside.client c.number.result c.self.inside.tried.items c.reserve-2.new.self.items c.add_attempt.new.tried.items c.deletion_attempt-tried.result (deletion_attempt_of c.in-Err.refusal (Deleted c.of-in-Err.result))
    c.reserve-2.ensures.items c.add_attempt.ensures c.deletion_attempt-tried.ensures)))

pub returns-in-Err-clause-refused : goal.returns-in-Err-clause-refused
returns-in-Err-clause-refused g c =
    subst (λ (s : Seen). DeleteHasCause (told_of c.self.inside.client g.B.Site.start g.B.Site.series (entries_of c.self.inside.client c.reserve.new.self.items) (entries_tried c.self.inside.client c.add_attempt.new.tried.items) c.delete.new.shard) s.health (g.D.Disk.health c.delete.new.shard.logs.disk) c.in-Err.refusal)
    c.self.view_is
    (subst (λ (l : List EntryNote). DeleteHasCause (told_of c.self.inside.client g.B.Site.start g.B.Site.series (entries_of c.self.inside.client l) (entries_tried c.self.inside.client c.add_attempt.new.tried.items) c.delete.new.shard)
    (g.D.Disk.health c.self.inside.shard.logs.disk) (g.D.Disk.health c.delete.new.shard.logs.disk) c.in-Err.refusal) (sym c.reserve.ensures.items)
    (delete_cause g.D.Disk g.B.Site.is_sound g.B.Site.start g.B.Site.series g.B.Site.handed_out c.self.inside.client (entries_of c.self.inside.client c.self.inside.notes.items) (entries_tried c.self.inside.client c.self.inside.tried.items) (entries_tried c.self.inside.client c.add_attempt.new.tried.items) c.self.inside.shard c.delete.new.shard
    c.self.invariant _ _ c.in-Err.refusal c.in-Err.ensures.refused))

pub invariant_of-self-in-Ok : goal.invariant_of-self-in-Ok
invariant_of-self-in-Ok g c =
    subst (λ (l : List (Snapshot NotedAttempt)). Holds g.D.Disk g.B.Site.is_sound g.B.Site.start g.B.Site.series g.B.Site.handed_out (entries_of c.self.inside.client c.add_note.new.notes.items) (entries_tried c.self.inside.client l) c.delete.new.shard) (sym c.reserve-2.ensures.items)
    (holds_more g.D.Disk g.B.Site.is_sound g.B.Site.start g.B.Site.series g.B.Site.handed_out (entries_of c.self.inside.client c.self.inside.notes.items) (entries_of c.self.inside.client c.add_note.new.notes.items) (entries_tried c.self.inside.client c.self.inside.tried.items)
    (Delete c.self.inside.client c.args.deletion.now) c.in-Ok.number c.self.inside.shard c.delete.new.shard c.self.invariant
    (delete_makes g.D.Disk c.self.inside.client c.in-Ok.number c.args.deletion.now c.self.inside.shard c.delete.new.shard c.in-Ok.ensures.ok c.delete.ensures.kept) c.delete.ensures.ready c.in-Ok.ensures.goes_on.ok c.delete.ensures.kept.handed_out
    (noted c.self.inside.client c.self.inside.notes.items c.reserve.new.self.items c.add_note.new.notes.items (Deleted c.of.result) (Delete c.self.inside.client c.args.deletion.now)
    c.reserve.ensures.items c.add_note.ensures (ap (λ (deletion : Deletion). Delete c.self.inside.client deletion) c.of.ensures)))

pub returns-in-Ok-clause-ok : goal.returns-in-Ok-clause-ok
returns-in-Ok-clause-ok g c =
    subst (λ (s : Seen). Accepts (Delete s.told.client c.args.deletion.now) c.in-Ok.number s.told (told_of c.self.inside.client g.B.Site.start g.B.Site.series (entries_of c.self.inside.client c.add_note.new.notes.items) (entries_tried c.self.inside.client c.reserve-2.new.self.items) c.delete.new.shard)) c.self.view_is
    (subst (λ (l : List (Snapshot NotedAttempt)). Accepts (Delete c.self.inside.client c.args.deletion.now) c.in-Ok.number (told_of c.self.inside.client g.B.Site.start g.B.Site.series (entries_of c.self.inside.client c.self.inside.notes.items) (entries_tried c.self.inside.client c.self.inside.tried.items) c.self.inside.shard)
    (told_of c.self.inside.client g.B.Site.start g.B.Site.series (entries_of c.self.inside.client c.add_note.new.notes.items) (entries_tried c.self.inside.client l) c.delete.new.shard)) (sym c.reserve-2.ensures.items)
    (accepts g.D.Disk g.B.Site.is_sound g.B.Site.start g.B.Site.series g.B.Site.handed_out c.self.inside.client (entries_of c.self.inside.client c.self.inside.notes.items) (entries_of c.self.inside.client c.add_note.new.notes.items) (entries_tried c.self.inside.client c.self.inside.tried.items)
    (Delete c.self.inside.client c.args.deletion.now) c.in-Ok.number c.self.inside.shard c.delete.new.shard c.self.invariant
    (delete_makes g.D.Disk c.self.inside.client c.in-Ok.number c.args.deletion.now c.self.inside.shard c.delete.new.shard c.in-Ok.ensures.ok c.delete.ensures.kept)
    (noted c.self.inside.client c.self.inside.notes.items c.reserve.new.self.items c.add_note.new.notes.items (Deleted c.of.result) (Delete c.self.inside.client c.args.deletion.now)
    c.reserve.ensures.items c.add_note.ensures (ap (λ (deletion : Deletion). Delete c.self.inside.client deletion) c.of.ensures))))

pub returns-in_err-reserve-2-clause-err : goal.returns-in_err-reserve-2-clause-err
returns-in_err-reserve-2-clause-err g c =
    if_deletion_refused _ _ _ _
    (ap (λ (l : List EntryNote). told_of c.self.inside.client g.B.Site.start g.B.Site.series (entries_of c.self.inside.client l) (entries_tried c.self.inside.client c.reserve-2.new.self.items) c.self.inside.shard) c.reserve.ensures.items
    ∙ ap (λ (l : List (Snapshot NotedAttempt)). told_of c.self.inside.client g.B.Site.start g.B.Site.series (entries_of c.self.inside.client c.self.inside.notes.items) (entries_tried c.self.inside.client l) c.self.inside.shard) c.reserve-2.ensures.items
    ∙ ap (λ (s : Seen). s.told) c.self.view_is)
