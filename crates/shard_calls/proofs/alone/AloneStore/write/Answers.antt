-- An entry of the engine is one of the store, and a refusal leaves both and notes what was tried.
use Rattle.std.proofs.Common.{sym, ap, subst, ◌∙◌, List}
use Rattle.std.specs.declared.snapshot.Snapshot.{Snapshot}
use Rattle.point_model.specs.Histories.{State}
use Rattle.point_model.specs.declared.entry.Entry.TheVariants.{Write}
use Rattle.tsdb_types.specs.declared.point.Point.{Point}
use Rattle.store_trait.specs.Calls.Entry.{Accepts}
use Rattle.store_trait.specs.Calls.Write.{MayBeTried, WriteHasCause}
use Rattle.store_trait.specs.Notes.{entries_of, entry_noted}
use Rattle.store_trait.specs.Told.{Refuses}
use Rattle.store_trait.specs.declared.note.EntryNote.{EntryNote}
use Rattle.store_trait.specs.declared.note.EntryNote.TheVariants.{Written}
use Rattle.shard_calls.specs.Attempts.{attempt_of, entries_tried, entry_tried}
use Rattle.shard_calls.specs.Holds.{Holds}
use Rattle.shard_calls.specs.Told.{Seen, told_of}
use Rattle.shard_calls.specs.declared.noting.NotedAttempt.{NotedAttempt}
use Rattle.shard_calls.proofs.CountLemmas.{noted}
use Rattle.shard_calls.proofs.StoreLemmas.{accepts, attempt_at, cause, holds_more, holds_same, if_refused, refuses, same_attempt, tried_noted, write_makes, write_makes_none, write_stayed, write_tries}
use Rattle.shard_calls.proofs.alone.AloneStore.write.Goals as goal

pub invariant_of-self-in-Err : goal.invariant_of-self-in-Err
invariant_of-self-in-Err g c =
    subst (λ (l : List EntryNote). Holds g.D.Disk g.B.Site.is_sound g.B.Site.start g.B.Site.series g.B.Site.handed_out (entries_of c.self.inside.client l) (entries_tried c.self.inside.client c.add_attempt.new.tried.items) c.write.new.shard) (sym c.reserve.ensures.items)
    (holds_same g.D.Disk g.B.Site.is_sound g.B.Site.start g.B.Site.series g.B.Site.handed_out (entries_of c.self.inside.client c.self.inside.notes.items) (entries_tried c.self.inside.client c.self.inside.tried.items)
    (entry_tried c.self.inside.client c.number.result (attempt_of c.in-Err.fault (Written c.of-in-Err.result))) (entries_tried c.self.inside.client c.add_attempt.new.tried.items) c.self.inside.shard c.write.new.shard
    (Write c.self.inside.client c.args.batch.now) _ c.self.invariant
    (write_makes_none c.self.inside.client c.args.batch.now c.self.inside.shard c.write.new.shard c.in-Err.ensures.err c.write.ensures.kept c.write.ensures.goes_on.series) c.write.ensures.ready
    (write_stayed g.D.Disk _ c.self.inside.client c.number.result (Write c.self.inside.client c.args.batch.now) (Written c.of-in-Err.result) c.self.inside.shard c.write.new.shard c.in-Err.fault
    (same_attempt c.number.result c.self.inside.shard.logs.number (entry_noted c.self.inside.client (Written c.of-in-Err.result)) (Write c.self.inside.client c.args.batch.now) (c.number.ensures ∙ ap (λ (s : State). s.number) c.in-Err.ensures.err)
    (ap (λ (points : List Point). Write c.self.inside.client points) c.of-in-Err.ensures)) c.in-Err.ensures.goes_on.stays c.in-Err.ensures.goes_on.untouched)
    c.in-Err.ensures.goes_on.handed_out
    (tried_noted c.self.inside.client c.number.result c.self.inside.tried.items c.reserve-2.new.self.items c.add_attempt.new.tried.items c.attempt-tried.result (attempt_of c.in-Err.fault (Written c.of-in-Err.result))
    c.reserve-2.ensures.items c.add_attempt.ensures c.attempt-tried.ensures))

pub returns-in-Err-clause-err : goal.returns-in-Err-clause-err
returns-in-Err-clause-err g c =
    subst (λ (s : Seen). Refuses (Write s.told.client c.args.batch.now) (MayBeTried c.in-Err.fault) s.told (told_of c.self.inside.client g.B.Site.start g.B.Site.series (entries_of c.self.inside.client c.reserve.new.self.items) (entries_tried c.self.inside.client c.add_attempt.new.tried.items) c.write.new.shard)) c.self.view_is
    (subst (λ (l : List EntryNote). Refuses (Write c.self.inside.client c.args.batch.now) (MayBeTried c.in-Err.fault) (told_of c.self.inside.client g.B.Site.start g.B.Site.series (entries_of c.self.inside.client c.self.inside.notes.items) (entries_tried c.self.inside.client c.self.inside.tried.items) c.self.inside.shard)
    (told_of c.self.inside.client g.B.Site.start g.B.Site.series (entries_of c.self.inside.client l) (entries_tried c.self.inside.client c.add_attempt.new.tried.items) c.write.new.shard)) (sym c.reserve.ensures.items)
    (refuses g.D.Disk g.B.Site.is_sound g.B.Site.start g.B.Site.series g.B.Site.handed_out c.self.inside.client (entries_of c.self.inside.client c.self.inside.notes.items) (entries_tried c.self.inside.client c.self.inside.tried.items)
    (entry_tried c.self.inside.client c.number.result (attempt_of c.in-Err.fault (Written c.of-in-Err.result))) (entries_tried c.self.inside.client c.add_attempt.new.tried.items) (Write c.self.inside.client c.args.batch.now) (MayBeTried c.in-Err.fault) c.self.inside.shard c.write.new.shard c.self.invariant
    (write_makes_none c.self.inside.client c.args.batch.now c.self.inside.shard c.write.new.shard c.in-Err.ensures.err c.write.ensures.kept c.write.ensures.goes_on.series)
    (write_tries c.self.inside.client c.number.result (entries_tried c.self.inside.client c.self.inside.tried.items) (attempt_at c.self.inside.shard.logs.number (Write c.self.inside.client c.args.batch.now)) (Written c.of-in-Err.result)
    (same_attempt c.number.result c.self.inside.shard.logs.number (entry_noted c.self.inside.client (Written c.of-in-Err.result)) (Write c.self.inside.client c.args.batch.now) (c.number.ensures ∙ ap (λ (s : State). s.number) c.in-Err.ensures.err)
    (ap (λ (points : List Point). Write c.self.inside.client points) c.of-in-Err.ensures)) c.in-Err.fault)
    (tried_noted c.self.inside.client c.number.result c.self.inside.tried.items c.reserve-2.new.self.items c.add_attempt.new.tried.items c.attempt-tried.result (attempt_of c.in-Err.fault (Written c.of-in-Err.result))
    c.reserve-2.ensures.items c.add_attempt.ensures c.attempt-tried.ensures)))

pub returns-in-Err-clause-refused : goal.returns-in-Err-clause-refused
returns-in-Err-clause-refused g c =
    subst (λ (s : Seen). WriteHasCause c.args.batch.now (told_of c.self.inside.client g.B.Site.start g.B.Site.series (entries_of c.self.inside.client c.reserve.new.self.items) (entries_tried c.self.inside.client c.add_attempt.new.tried.items) c.write.new.shard) s.health (g.D.Disk.health c.write.new.shard.logs.disk) c.in-Err.fault)
    c.self.view_is
    (subst (λ (l : List EntryNote). WriteHasCause c.args.batch.now (told_of c.self.inside.client g.B.Site.start g.B.Site.series (entries_of c.self.inside.client l) (entries_tried c.self.inside.client c.add_attempt.new.tried.items) c.write.new.shard)
    (g.D.Disk.health c.self.inside.shard.logs.disk) (g.D.Disk.health c.write.new.shard.logs.disk) c.in-Err.fault) (sym c.reserve.ensures.items)
    (cause g.D.Disk g.B.Site.is_sound g.B.Site.start g.B.Site.series g.B.Site.handed_out c.self.inside.client (entries_of c.self.inside.client c.self.inside.notes.items) (entries_tried c.self.inside.client c.self.inside.tried.items) (entries_tried c.self.inside.client c.add_attempt.new.tried.items) c.self.inside.shard c.write.new.shard c.args.batch.now
    c.self.invariant c.write.ensures.kept _ _ c.in-Err.fault c.in-Err.ensures.refused))

pub invariant_of-self-in-Ok : goal.invariant_of-self-in-Ok
invariant_of-self-in-Ok g c =
    subst (λ (l : List (Snapshot NotedAttempt)). Holds g.D.Disk g.B.Site.is_sound g.B.Site.start g.B.Site.series g.B.Site.handed_out (entries_of c.self.inside.client c.add_note.new.notes.items) (entries_tried c.self.inside.client l) c.write.new.shard) (sym c.reserve-2.ensures.items)
    (holds_more g.D.Disk g.B.Site.is_sound g.B.Site.start g.B.Site.series g.B.Site.handed_out (entries_of c.self.inside.client c.self.inside.notes.items) (entries_of c.self.inside.client c.add_note.new.notes.items) (entries_tried c.self.inside.client c.self.inside.tried.items)
    (Write c.self.inside.client c.args.batch.now) c.in-Ok.number c.self.inside.shard c.write.new.shard c.self.invariant
    (write_makes c.self.inside.client c.in-Ok.number c.args.batch.now c.self.inside.shard c.write.new.shard c.in-Ok.ensures.ok c.write.ensures.kept c.write.ensures.goes_on.series) c.write.ensures.ready c.in-Ok.ensures.goes_on.ok c.in-Ok.ensures.goes_on.handed_out
    (noted c.self.inside.client c.self.inside.notes.items c.reserve.new.self.items c.add_note.new.notes.items (Written c.of.result) (Write c.self.inside.client c.args.batch.now)
    c.reserve.ensures.items c.add_note.ensures (ap (λ (points : List Point). Write c.self.inside.client points) c.of.ensures)))

pub returns-in-Ok-clause-ok : goal.returns-in-Ok-clause-ok
returns-in-Ok-clause-ok g c =
    subst (λ (s : Seen). Accepts (Write s.told.client c.args.batch.now) c.in-Ok.number s.told (told_of c.self.inside.client g.B.Site.start g.B.Site.series (entries_of c.self.inside.client c.add_note.new.notes.items) (entries_tried c.self.inside.client c.reserve-2.new.self.items) c.write.new.shard)) c.self.view_is
    (subst (λ (l : List (Snapshot NotedAttempt)). Accepts (Write c.self.inside.client c.args.batch.now) c.in-Ok.number (told_of c.self.inside.client g.B.Site.start g.B.Site.series (entries_of c.self.inside.client c.self.inside.notes.items) (entries_tried c.self.inside.client c.self.inside.tried.items) c.self.inside.shard)
    (told_of c.self.inside.client g.B.Site.start g.B.Site.series (entries_of c.self.inside.client c.add_note.new.notes.items) (entries_tried c.self.inside.client l) c.write.new.shard)) (sym c.reserve-2.ensures.items)
    (accepts g.D.Disk g.B.Site.is_sound g.B.Site.start g.B.Site.series g.B.Site.handed_out c.self.inside.client (entries_of c.self.inside.client c.self.inside.notes.items) (entries_of c.self.inside.client c.add_note.new.notes.items) (entries_tried c.self.inside.client c.self.inside.tried.items)
    (Write c.self.inside.client c.args.batch.now) c.in-Ok.number c.self.inside.shard c.write.new.shard c.self.invariant
    (write_makes c.self.inside.client c.in-Ok.number c.args.batch.now c.self.inside.shard c.write.new.shard c.in-Ok.ensures.ok c.write.ensures.kept c.write.ensures.goes_on.series)
    (noted c.self.inside.client c.self.inside.notes.items c.reserve.new.self.items c.add_note.new.notes.items (Written c.of.result) (Write c.self.inside.client c.args.batch.now)
    c.reserve.ensures.items c.add_note.ensures (ap (λ (points : List Point). Write c.self.inside.client points) c.of.ensures))))

pub returns-in_err-reserve-2-clause-err : goal.returns-in_err-reserve-2-clause-err
returns-in_err-reserve-2-clause-err g c =
    if_refused _ _ _ _
    (ap (λ (l : List EntryNote). told_of c.self.inside.client g.B.Site.start g.B.Site.series (entries_of c.self.inside.client l) (entries_tried c.self.inside.client c.reserve-2.new.self.items) c.self.inside.shard) c.reserve.ensures.items
    ∙ ap (λ (l : List (Snapshot NotedAttempt)). told_of c.self.inside.client g.B.Site.start g.B.Site.series (entries_of c.self.inside.client c.self.inside.notes.items) (entries_tried c.self.inside.client l) c.self.inside.shard) c.reserve-2.ensures.items
    ∙ ap (λ (s : Seen). s.told) c.self.view_is)
