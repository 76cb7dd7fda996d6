-- The engine comes to one entry more, or stays at the same and notes what was refused.
use Rattle.std.proofs.Common.{◌≡◌, ◌∙◌, ◌+◌, ◌++◌, ◌∷◌, [], List, length, append-nil, ap, sym, subst, refl, arith, Option}
use Rattle.std.specs.declared.snapshot.Snapshot.{Snapshot}
use Rattle.shard_steps.specs.declared.shard.Shard.{Shard}
use Rattle.point_model.specs.declared.deletion.Deletion.{Deletion}
use Rattle.point_model.specs.declared.entry.Entry.TheVariants.{Delete}
use Rattle.point_model.specs.Histories.{State}
use Rattle.history_turn.proofs.HistoriesLemmas.{starts_longer}
use Rattle.store_trait.specs.Calls.Delete.{DeleteHasCause, MayBeTried}
use Rattle.store_trait.specs.Calls.Entry.{Accepts}
use Rattle.store_trait.specs.Told.{Keeps, Refuses, TriesAtMost}
use Rattle.store_trait.specs.Notes.{entry_noted}
use Rattle.store_trait.specs.declared.note.EntryNote.{EntryNote}
use Rattle.store_trait.specs.declared.note.EntryNote.TheVariants.{Deleted}
use Rattle.store_trait.specs.declared.fault.DeleteFault.{DeleteFault}
use Rattle.shard_steps.specs.Calls.Delete.{HasCause}
use Rattle.shard_steps.specs.declared.facts.Facts.{Facts}
use Rattle.shard_calls.specs.Attempts.{deletion_attempt_of, entry_tried}
use Rattle.shard_calls.proofs.StoreLemmas.{attempt_at, delete_makes, delete_makes_none, delete_stayed, delete_tries_before, same_attempt}
use Rattle.shard_shared.specs.Entries.{faults_lent, refusals_in, tried_in, tried_lent}
use Rattle.shard_shared.specs.Reaching.{entered_by}
use Rattle.shard_shared.specs.Told.{EngineView, health_by, is_steady_at, number_at, told_over}
use Rattle.shard_shared.specs.declared.engine.Lent.{Lent}
use Rattle.shard_shared.specs.declared.engine.Lent.TheVariants.{Fault, Found}
use Rattle.shard_shared.specs.declared.engine.Refusal.{Refusal}
use Rattle.shard_shared.proofs.EntriesLemmas.{change_failed, change_found, change_same, few_grown, noted_refusals, tried_more}
use Rattle.shard_shared.proofs.ReachingLemmas.{failed_more, failed_same, from_any, ran_more, ran_same, ran_still, reaches_more, reaches_same}
use Rattle.shard_shared.proofs.ToldLemmas.{accepts, delete_cause, failed, keeps, reached, refuses}
use Rattle.shard_shared.proofs.TurnLemmas.{Pass, deletion_fault_is, deletion_fault_isnt, gave, none_more, noted_few, quiet_deletion_answer, quiet_deletion_refusal, roomy_few, roomy_ran, roomy_reaches}
use Rattle.shard_shared.proofs.shared.SharedStore.delete.Goals as goal

pub give-requires-clause-stands : goal.give-requires-clause-stands
give-requires-clause-stands g c =
    let taken = c.take-held.ensures in
    let old = c.has_room.new.self in
    let start = c.args.self.now.pass.view.start in
    rw (ap (λ (p : Pass g.row.D.Denot). p.view.start) taken.now, ap (λ (p : Pass g.row.D.Denot). p.view.seen) taken.now) (
      none_more g.D.Disk start old.faults (tried_in (refusals_in old.found.items)) taken.entries old.shard (roomy_reaches g.D.Disk start taken.entries c.take-held.result c.value-engine.result.now old c.value-engine.ensures.value c.has_room.ensures.shard c.has_room.ensures.faults c.has_room.ensures.found taken.stands_for),
      roomy_few g.D.Disk start taken.entries c.take-held.result c.value-engine.result.now old c.value-engine.ensures.value c.has_room.ensures.shard c.has_room.ensures.found taken.stands_for,
      ran_still g.D.Disk start (tried_in (refusals_in old.found.items)) taken.entries old.shard (roomy_ran g.D.Disk start taken.entries c.take-held.result c.value-engine.result.now old c.value-engine.ensures.value c.has_room.ensures.shard c.has_room.ensures.found taken.stands_for),
    )

pub give-requires-clause-loans : goal.give-requires-clause-loans
give-requires-clause-loans g c =
    let taken = c.take-held.ensures in
    let was = c.value-engine.result.now in
    rw (ap (λ (p : Pass g.row.D.Denot). p.view.loans_found) taken.now, ap (λ (p : Pass g.row.D.Denot). p.view.loans) taken.now, sym c.value-engine.ensures.value)
    (change_same was.shard.views was.faults (refusals_in was.found.items) c.has_room.new.self.shard.views c.has_room.new.self.faults (refusals_in c.has_room.new.self.found.items)
    c.args.self.now.pass.view.loans (ap (λ (s : Shard g.row.D.Denot). s.views) c.has_room.ensures.shard) c.has_room.ensures.faults
    (ap (λ (l : List (Snapshot Refusal)). refusals_in l) c.has_room.ensures.found))

pub give-requires-in-Ok-clause-loans : goal.give-requires-in-Ok-clause-loans
give-requires-in-Ok-clause-loans g c =
    let taken = c.take-held.ensures in
    let was = c.value-engine.result.now in
    rw (ap (λ (p : Pass g.row.D.Denot). p.view.loans_found) taken.now, ap (λ (p : Pass g.row.D.Denot). p.view.loans) taken.now, sym c.value-engine.ensures.value)
    (change_same was.shard.views was.faults (refusals_in was.found.items) c.delete.new.shard.views c.has_room.new.self.faults (refusals_in c.has_room.new.self.found.items)
    c.args.self.now.pass.view.loans (c.delete.ensures.kept.views ∙ ap (λ (s : Shard g.row.D.Denot). s.views) c.has_room.ensures.shard) c.has_room.ensures.faults
    (ap (λ (l : List (Snapshot Refusal)). refusals_in l) c.has_room.ensures.found))

pub give-requires-in-Ok-clause-stands : goal.give-requires-in-Ok-clause-stands
give-requires-in-Ok-clause-stands g c =
    let taken = c.take-held.ensures in
    let old = c.has_room.new.self in
    let start = c.args.self.now.pass.view.start in
    rw (ap (λ (p : Pass g.row.D.Denot). p.view.start) taken.now, ap (λ (p : Pass g.row.D.Denot). p.view.seen) taken.now) (
      from_any g.D.Disk start old.faults old.faults (tried_in (refusals_in old.found.items)) (tried_in (refusals_in old.found.items)) taken.entries (taken.entries ++ entered_by g.D.Disk (Delete c.args.self.now.client c.args.deletion.now) c.delete.new.shard ∷ []) old.shard c.delete.new.shard
          (λ s was. reaches_more g.D.Disk s (Delete c.args.self.now.client c.args.deletion.now) c.in-Ok.number old.faults (tried_in (refusals_in old.found.items)) taken.entries old.shard c.delete.new.shard
          (delete_makes g.D.Disk c.args.self.now.client c.in-Ok.number c.args.deletion.now old.shard c.delete.new.shard c.in-Ok.ensures.ok c.delete.ensures.kept) c.delete.ensures.ready
          c.delete.ensures.kept.handed_out (c.in-Ok.ensures.quiet (quiet_deletion_answer c.in-Ok.number)) was)
          (roomy_reaches g.D.Disk start taken.entries c.take-held.result c.value-engine.result.now old c.value-engine.ensures.value c.has_room.ensures.shard c.has_room.ensures.faults c.has_room.ensures.found taken.stands_for),
      few_grown (refusals_in old.found.items) old.shard.logs.series.keys [] c.delete.new.shard.logs.series.keys (roomy_few g.D.Disk start taken.entries c.take-held.result c.value-engine.result.now old c.value-engine.ensures.value c.has_room.ensures.shard c.has_room.ensures.found taken.stands_for) (c.delete.ensures.kept.series ∙ sym (append-nil old.shard.logs.series.keys)),
      ran_more g.D.Disk start (Delete c.args.self.now.client c.args.deletion.now) (tried_in (refusals_in old.found.items)) taken.entries old.shard c.delete.new.shard c.in-Ok.ensures.goes_on.ok
          (roomy_ran g.D.Disk start taken.entries c.take-held.result c.value-engine.result.now old c.value-engine.ensures.value c.has_room.ensures.shard c.has_room.ensures.found taken.stands_for),
    )

pub give-requires-then-tells_deletion_fault-clause-stands : goal.give-requires-then-tells_deletion_fault-clause-stands
give-requires-then-tells_deletion_fault-clause-stands g c =
    let taken = c.take-held.ensures in
    let old = c.has_room.new.self in
    let start = c.args.self.now.pass.view.start in
    let refusal : Refusal = record { client = c.args.self.now.client; series = c.facts.result.series; number = c.number.result; tried = c.deletion_attempt.result } in
    let tried = tried_in (refusals_in old.found.items) in
    let more = entry_tried c.args.self.now.client c.number.result (deletion_attempt_of c.in-Err.fault (Deleted c.of.result)) in
    let now = tried_in (refusals_in c.note.new.found.items) in
    let grows : now ≡ tried ++ more =
    tried_more old.found.items c.note.new.found.items c.of-in-Err.result refusal c.note.ensures c.of-in-Err.ensures
    ∙ ap (λ (o : Option EntryNote). tried_in (refusals_in old.found.items) ++ entry_tried c.args.self.now.client c.number.result o) c.deletion_attempt.ensures in
    let stayed = delete_stayed g.D.Disk _ c.args.self.now.client c.number.result (Delete c.args.self.now.client c.args.deletion.now) (Deleted c.of.result) old.shard c.delete.new.shard c.in-Err.fault
    (same_attempt c.number.result old.shard.logs.number (entry_noted c.args.self.now.client (Deleted c.of.result)) (Delete c.args.self.now.client c.args.deletion.now) (c.number.ensures ∙ ap (λ (s : State). s.number) c.in-Err.ensures.err)
    (ap (λ (deletion : Deletion). Delete c.args.self.now.client deletion) c.of.ensures)) c.in-Err.ensures.goes_on.stays c.in-Err.ensures.goes_on.untouched in
    rw (ap (λ (p : Pass g.row.D.Denot). p.view.start) taken.now, ap (λ (p : Pass g.row.D.Denot). p.view.seen) taken.now) (
      none_more g.D.Disk start (old.faults + 1) now taken.entries c.delete.new.shard
          (from_any g.D.Disk start old.faults (old.faults + 1) tried now taken.entries taken.entries old.shard c.delete.new.shard
          (λ s was. reaches_same g.D.Disk s (old.faults + 1) old.faults (Delete c.args.self.now.client c.args.deletion.now) _ tried more now taken.entries old.shard c.delete.new.shard
          (delete_makes_none g.D.Disk (Delete c.args.self.now.client c.args.deletion.now) old.shard c.delete.new.shard c.in-Err.ensures.err c.delete.ensures.kept) stayed grows c.delete.ensures.ready c.delete.ensures.kept.handed_out
          (failed_more (g.D.Disk.health s.logs.disk) (g.D.Disk.health old.shard.logs.disk) (g.D.Disk.health c.delete.new.shard.logs.disk) old.faults was.health c.delete.ensures.ages
          (subst (λ (why : DeleteFault). HasCause old.shard (g.D.Disk.health old.shard.logs.disk) (g.D.Disk.health c.delete.new.shard.logs.disk) why)
          (deletion_fault_is c.in-Err.fault (sym c.tells_deletion_fault.ensures ∙ c.if-tells_deletion_fault.true)) c.in-Err.ensures.refused).0) was)
          (roomy_reaches g.D.Disk start taken.entries c.take-held.result c.value-engine.result.now old c.value-engine.ensures.value c.has_room.ensures.shard c.has_room.ensures.faults c.has_room.ensures.found taken.stands_for)),
      noted_few old.found.items c.note.new.found.items c.of-in-Err.result refusal old.shard.logs.series.keys [] c.delete.new.shard.logs.series.keys c.note.ensures c.of-in-Err.ensures (c.delete.ensures.kept.series ∙ sym (append-nil old.shard.logs.series.keys)) (ap (λ (f : Facts). f.series) c.facts.ensures.are)
          (roomy_few g.D.Disk start taken.entries c.take-held.result c.value-engine.result.now old c.value-engine.ensures.value c.has_room.ensures.shard c.has_room.ensures.found taken.stands_for),
      ran_same g.D.Disk start (Delete c.args.self.now.client c.args.deletion.now) _ tried more now taken.entries old.shard c.delete.new.shard stayed grows
          (roomy_ran g.D.Disk start taken.entries c.take-held.result c.value-engine.result.now old c.value-engine.ensures.value c.has_room.ensures.shard c.has_room.ensures.found taken.stands_for),
    )

pub give-requires-then-tells_deletion_fault-clause-loans : goal.give-requires-then-tells_deletion_fault-clause-loans
give-requires-then-tells_deletion_fault-clause-loans g c =
    let taken = c.take-held.ensures in
    let was = c.value-engine.result.now in
    rw (ap (λ (p : Pass g.row.D.Denot). p.view.loans_found) taken.now, ap (λ (p : Pass g.row.D.Denot). p.view.loans) taken.now, sym c.value-engine.ensures.value)
    (change_failed was.shard.views was.faults (refusals_in was.found.items) c.delete.new.shard.views (c.has_room.new.self.faults + 1) (refusals_in c.note.new.found.items) (record { client = c.args.self.now.client; series = c.facts.result.series; number = c.number.result; tried = c.deletion_attempt.result })
    c.args.self.now.pass.view.loans (c.delete.ensures.kept.views ∙ ap (λ (s : Shard g.row.D.Denot). s.views) c.has_room.ensures.shard) (ap (λ n. n + 1) c.has_room.ensures.faults)
    (noted_refusals was.found.items c.note.new.found.items c.of-in-Err.result (record { client = c.args.self.now.client; series = c.facts.result.series; number = c.number.result; tried = c.deletion_attempt.result })
    (c.note.ensures ∙ ap (λ (l : List (Snapshot Refusal)). l ++ c.of-in-Err.result ∷ []) c.has_room.ensures.found) c.of-in-Err.ensures))

pub give-requires-in-Err-clause-stands : goal.give-requires-in-Err-clause-stands
give-requires-in-Err-clause-stands g c =
    let taken = c.take-held.ensures in
    let old = c.has_room.new.self in
    let start = c.args.self.now.pass.view.start in
    let refusal : Refusal = record { client = c.args.self.now.client; series = c.facts.result.series; number = c.number.result; tried = c.deletion_attempt.result } in
    let tried = tried_in (refusals_in old.found.items) in
    let more = entry_tried c.args.self.now.client c.number.result (deletion_attempt_of c.in-Err.fault (Deleted c.of.result)) in
    let now = tried_in (refusals_in c.note.new.found.items) in
    let grows : now ≡ tried ++ more =
    tried_more old.found.items c.note.new.found.items c.of-in-Err.result refusal c.note.ensures c.of-in-Err.ensures
    ∙ ap (λ (o : Option EntryNote). tried_in (refusals_in old.found.items) ++ entry_tried c.args.self.now.client c.number.result o) c.deletion_attempt.ensures in
    let stayed = delete_stayed g.D.Disk _ c.args.self.now.client c.number.result (Delete c.args.self.now.client c.args.deletion.now) (Deleted c.of.result) old.shard c.delete.new.shard c.in-Err.fault
    (same_attempt c.number.result old.shard.logs.number (entry_noted c.args.self.now.client (Deleted c.of.result)) (Delete c.args.self.now.client c.args.deletion.now) (c.number.ensures ∙ ap (λ (s : State). s.number) c.in-Err.ensures.err)
    (ap (λ (deletion : Deletion). Delete c.args.self.now.client deletion) c.of.ensures)) c.in-Err.ensures.goes_on.stays c.in-Err.ensures.goes_on.untouched in
    rw (ap (λ (p : Pass g.row.D.Denot). p.view.start) taken.now, ap (λ (p : Pass g.row.D.Denot). p.view.seen) taken.now) (
      none_more g.D.Disk start old.faults now taken.entries c.delete.new.shard
          (from_any g.D.Disk start old.faults old.faults tried now taken.entries taken.entries old.shard c.delete.new.shard
          (λ s was. reaches_same g.D.Disk s old.faults old.faults (Delete c.args.self.now.client c.args.deletion.now) _ tried more now taken.entries old.shard c.delete.new.shard
          (delete_makes_none g.D.Disk (Delete c.args.self.now.client c.args.deletion.now) old.shard c.delete.new.shard c.in-Err.ensures.err c.delete.ensures.kept) stayed grows c.delete.ensures.ready c.delete.ensures.kept.handed_out
          (failed_same (g.D.Disk.health s.logs.disk) (g.D.Disk.health old.shard.logs.disk) (g.D.Disk.health c.delete.new.shard.logs.disk) old.faults was.health
          (c.in-Err.ensures.quiet (quiet_deletion_refusal c.in-Err.fault (sym c.tells_deletion_fault.ensures ∙ c.if-tells_deletion_fault.false)))) was)
          (roomy_reaches g.D.Disk start taken.entries c.take-held.result c.value-engine.result.now old c.value-engine.ensures.value c.has_room.ensures.shard c.has_room.ensures.faults c.has_room.ensures.found taken.stands_for)),
      noted_few old.found.items c.note.new.found.items c.of-in-Err.result refusal old.shard.logs.series.keys [] c.delete.new.shard.logs.series.keys c.note.ensures c.of-in-Err.ensures (c.delete.ensures.kept.series ∙ sym (append-nil old.shard.logs.series.keys)) (ap (λ (f : Facts). f.series) c.facts.ensures.are)
          (roomy_few g.D.Disk start taken.entries c.take-held.result c.value-engine.result.now old c.value-engine.ensures.value c.has_room.ensures.shard c.has_room.ensures.found taken.stands_for),
      ran_same g.D.Disk start (Delete c.args.self.now.client c.args.deletion.now) _ tried more now taken.entries old.shard c.delete.new.shard stayed grows
          (roomy_ran g.D.Disk start taken.entries c.take-held.result c.value-engine.result.now old c.value-engine.ensures.value c.has_room.ensures.shard c.has_room.ensures.found taken.stands_for),
    )

pub give-requires-in-Err-clause-loans : goal.give-requires-in-Err-clause-loans
give-requires-in-Err-clause-loans g c =
    let taken = c.take-held.ensures in
    let was = c.value-engine.result.now in
    rw (ap (λ (p : Pass g.row.D.Denot). p.view.loans_found) taken.now, ap (λ (p : Pass g.row.D.Denot). p.view.loans) taken.now, sym c.value-engine.ensures.value)
    (change_found was.shard.views was.faults (refusals_in was.found.items) c.delete.new.shard.views c.has_room.new.self.faults (refusals_in c.note.new.found.items) (record { client = c.args.self.now.client; series = c.facts.result.series; number = c.number.result; tried = c.deletion_attempt.result })
    c.args.self.now.pass.view.loans (c.delete.ensures.kept.views ∙ ap (λ (s : Shard g.row.D.Denot). s.views) c.has_room.ensures.shard) c.has_room.ensures.faults
    (noted_refusals was.found.items c.note.new.found.items c.of-in-Err.result (record { client = c.args.self.now.client; series = c.facts.result.series; number = c.number.result; tried = c.deletion_attempt.result })
    (c.note.ensures ∙ ap (λ (l : List (Snapshot Refusal)). l ++ c.of-in-Err.result ∷ []) c.has_room.ensures.found) c.of-in-Err.ensures))

pub returns-then-tells_deletion_fault-clause-kept : goal.returns-then-tells_deletion_fault-clause-kept
returns-then-tells_deletion_fault-clause-kept g c =
    let taken = c.take-held.ensures in
    let was = c.args.self.now.pass.view in
    subst (λ (v : EngineView g.row.D.Denot). Keeps (told_over c.args.self.now.client was) (told_over c.args.self.now.client v))
    (sym (gave c.args.self.now.pass c.take-held.new.pass c.give-then-tells_deletion_fault.new.pass taken.entries _ _ _ [] _ (λ (l : List Lent). Fault ∷ Found (record { client = c.args.self.now.client; series = c.facts.result.series; number = c.number.result; tried = c.deletion_attempt.result }) ∷ l) taken.now c.give-then-tells_deletion_fault.ensures))
    (keeps c.args.self.now.client was.start was.seen (taken.entries ++ []) was.own was.own was.loans (Fault ∷ Found (record { client = c.args.self.now.client; series = c.facts.result.series; number = c.number.result; tried = c.deletion_attempt.result }) ∷ was.loans)
    (starts_longer taken.entries was.seen [] taken.seen) (omega arith))

pub returns-then-tells_deletion_fault-clause-refused : goal.returns-then-tells_deletion_fault-clause-refused
returns-then-tells_deletion_fault-clause-refused g c =
    let taken = c.take-held.ensures in
    let old = c.has_room.new.self in
    let was = c.args.self.now.pass.view in
    let start = was.start in
    let came = roomy_reaches g.D.Disk start taken.entries c.take-held.result c.value-engine.result.now old c.value-engine.ensures.value c.has_room.ensures.shard c.has_room.ensures.faults c.has_room.ensures.found taken.stands_for in
    subst (λ (v : EngineView g.row.D.Denot). DeleteHasCause (told_over c.args.self.now.client v) (health_by g.D.Disk was) (health_by g.D.Disk v) c.in-Err.fault)
    (sym (gave c.args.self.now.pass c.take-held.new.pass c.give-then-tells_deletion_fault.new.pass taken.entries _ _ _ [] _ (λ (l : List Lent). Fault ∷ Found (record { client = c.args.self.now.client; series = c.facts.result.series; number = c.number.result; tried = c.deletion_attempt.result }) ∷ l) taken.now c.give-then-tells_deletion_fault.ensures))
    (delete_cause g.D.Disk was.start old.faults c.args.self.now.client (tried_in (refusals_in old.found.items)) (taken.entries ++ []) was.own (Fault ∷ Found (record { client = c.args.self.now.client; series = c.facts.result.series; number = c.number.result; tried = c.deletion_attempt.result }) ∷ was.loans) old.shard
    (none_more g.D.Disk was.start old.faults (tried_in (refusals_in old.found.items)) taken.entries old.shard came)
    (g.D.Disk.health old.shard.logs.disk) (g.D.Disk.health c.delete.new.shard.logs.disk) (health_by g.D.Disk was) (record { faults = faults_lent was.loans + 1; is_steady = is_steady_at g.D.Disk was.start }) c.in-Err.fault
    (λ is fails. failed g.D.Disk was.start old.faults (faults_lent was.loans) (tried_in (refusals_in old.found.items)) taken.entries old.shard (g.D.Disk.health c.delete.new.shard.logs.disk) came fails)
    c.in-Err.ensures.refused)

pub returns-else-tells_deletion_fault-clause-kept : goal.returns-else-tells_deletion_fault-clause-kept
returns-else-tells_deletion_fault-clause-kept g c =
    let taken = c.take-held.ensures in
    let was = c.args.self.now.pass.view in
    subst (λ (v : EngineView g.row.D.Denot). Keeps (told_over c.args.self.now.client was) (told_over c.args.self.now.client v))
    (sym (gave c.args.self.now.pass c.take-held.new.pass c.give-in-Err.new.pass taken.entries _ _ _ [] _ (λ (l : List Lent). Found (record { client = c.args.self.now.client; series = c.facts.result.series; number = c.number.result; tried = c.deletion_attempt.result }) ∷ l) taken.now c.give-in-Err.ensures))
    (keeps c.args.self.now.client was.start was.seen (taken.entries ++ []) was.own was.own was.loans (Found (record { client = c.args.self.now.client; series = c.facts.result.series; number = c.number.result; tried = c.deletion_attempt.result }) ∷ was.loans)
    (starts_longer taken.entries was.seen [] taken.seen) (omega arith))

pub returns-else-tells_deletion_fault-clause-refused : goal.returns-else-tells_deletion_fault-clause-refused
returns-else-tells_deletion_fault-clause-refused g c =
    let taken = c.take-held.ensures in
    let old = c.has_room.new.self in
    let was = c.args.self.now.pass.view in
    let start = was.start in
    let came = roomy_reaches g.D.Disk start taken.entries c.take-held.result c.value-engine.result.now old c.value-engine.ensures.value c.has_room.ensures.shard c.has_room.ensures.faults c.has_room.ensures.found taken.stands_for in
    subst (λ (v : EngineView g.row.D.Denot). DeleteHasCause (told_over c.args.self.now.client v) (health_by g.D.Disk was) (health_by g.D.Disk v) c.in-Err.fault)
    (sym (gave c.args.self.now.pass c.take-held.new.pass c.give-in-Err.new.pass taken.entries _ _ _ [] _ (λ (l : List Lent). Found (record { client = c.args.self.now.client; series = c.facts.result.series; number = c.number.result; tried = c.deletion_attempt.result }) ∷ l) taken.now c.give-in-Err.ensures))
    (delete_cause g.D.Disk was.start old.faults c.args.self.now.client (tried_in (refusals_in old.found.items)) (taken.entries ++ []) was.own (Found (record { client = c.args.self.now.client; series = c.facts.result.series; number = c.number.result; tried = c.deletion_attempt.result }) ∷ was.loans) old.shard
    (none_more g.D.Disk was.start old.faults (tried_in (refusals_in old.found.items)) taken.entries old.shard came)
    (g.D.Disk.health old.shard.logs.disk) (g.D.Disk.health c.delete.new.shard.logs.disk) (health_by g.D.Disk was) (health_by g.D.Disk was) c.in-Err.fault
    (λ is fails. absurd (deletion_fault_isnt c.in-Err.fault (sym c.tells_deletion_fault.ensures ∙ c.if-tells_deletion_fault.false) is))
    c.in-Err.ensures.refused)

pub returns-in-Ok-clause-kept : goal.returns-in-Ok-clause-kept
returns-in-Ok-clause-kept g c =
    let taken = c.take-held.ensures in
    let was = c.args.self.now.pass.view in
    let entered = entered_by g.D.Disk (Delete c.args.self.now.client c.args.deletion.now) c.delete.new.shard in
    subst (λ (v : EngineView g.row.D.Denot). Keeps (told_over c.args.self.now.client was) (told_over c.args.self.now.client v))
    (sym (gave c.args.self.now.pass c.take-held.new.pass c.give-in-Ok.new.pass taken.entries _ _ _ (entered ∷ []) _ (λ (l : List Lent). l) taken.now c.give-in-Ok.ensures))
    (keeps c.args.self.now.client was.start was.seen (taken.entries ++ entered ∷ []) was.own ((number_at was.start + length taken.entries + 1) ∷ was.own) was.loans was.loans
    (starts_longer taken.entries was.seen (entered ∷ []) taken.seen) (omega arith))

pub returns-then-tells_deletion_fault-clause-err : goal.returns-then-tells_deletion_fault-clause-err
returns-then-tells_deletion_fault-clause-err g c =
    let taken = c.take-held.ensures in
    let old = c.has_room.new.self in
    let was = c.args.self.now.pass.view in
    let came = roomy_reaches g.D.Disk was.start taken.entries c.take-held.result c.value-engine.result.now old c.value-engine.ensures.value c.has_room.ensures.shard c.has_room.ensures.faults c.has_room.ensures.found taken.stands_for in
    let asked = Delete c.args.self.now.client c.args.deletion.now in
    subst (λ (v : EngineView g.row.D.Denot). Refuses asked (MayBeTried c.in-Err.fault) (told_over c.args.self.now.client was) (told_over c.args.self.now.client v))
    (sym (gave c.args.self.now.pass c.take-held.new.pass c.give-then-tells_deletion_fault.new.pass taken.entries _ _ _ [] _ (λ (l : List Lent). Fault ∷ Found (record { client = c.args.self.now.client; series = c.facts.result.series; number = c.number.result; tried = c.deletion_attempt.result }) ∷ l) taken.now c.give-then-tells_deletion_fault.ensures))
    (refuses c.args.self.now.client was.start c.number.result asked (MayBeTried c.in-Err.fault) was.seen (taken.entries ++ []) was.own was.loans (Fault ∷ Found (record { client = c.args.self.now.client; series = c.facts.result.series; number = c.number.result; tried = c.deletion_attempt.result }) ∷ was.loans) refl
    (c.number.ensures ∙ ap (λ (s : State). s.number) c.in-Err.ensures.err ∙ ap (λ (s : State). s.number) (reached g.D.Disk was.start old.faults (tried_in (refusals_in old.found.items)) (taken.entries ++ []) old.shard
    (none_more g.D.Disk was.start old.faults (tried_in (refusals_in old.found.items)) taken.entries old.shard came)))
    (subst (λ (o : Option EntryNote). TriesAtMost (attempt_at c.number.result asked) (MayBeTried c.in-Err.fault) (tried_lent was.loans) (entry_tried c.args.self.now.client c.number.result o ++ tried_lent was.loans)) (sym c.deletion_attempt.ensures)
    (delete_tries_before (tried_lent was.loans) (attempt_at c.number.result asked) c.args.self.now.client c.number.result (Deleted c.of.result) (ap (λ (deletion : Deletion). attempt_at c.number.result (Delete c.args.self.now.client deletion)) c.of.ensures) c.in-Err.fault)))

pub returns-else-tells_deletion_fault-clause-err : goal.returns-else-tells_deletion_fault-clause-err
returns-else-tells_deletion_fault-clause-err g c =
    let taken = c.take-held.ensures in
    let old = c.has_room.new.self in
    let was = c.args.self.now.pass.view in
    let came = roomy_reaches g.D.Disk was.start taken.entries c.take-held.result c.value-engine.result.now old c.value-engine.ensures.value c.has_room.ensures.shard c.has_room.ensures.faults c.has_room.ensures.found taken.stands_for in
    let asked = Delete c.args.self.now.client c.args.deletion.now in
    subst (λ (v : EngineView g.row.D.Denot). Refuses asked (MayBeTried c.in-Err.fault) (told_over c.args.self.now.client was) (told_over c.args.self.now.client v))
    (sym (gave c.args.self.now.pass c.take-held.new.pass c.give-in-Err.new.pass taken.entries _ _ _ [] _ (λ (l : List Lent). Found (record { client = c.args.self.now.client; series = c.facts.result.series; number = c.number.result; tried = c.deletion_attempt.result }) ∷ l) taken.now c.give-in-Err.ensures))
    (refuses c.args.self.now.client was.start c.number.result asked (MayBeTried c.in-Err.fault) was.seen (taken.entries ++ []) was.own was.loans (Found (record { client = c.args.self.now.client; series = c.facts.result.series; number = c.number.result; tried = c.deletion_attempt.result }) ∷ was.loans) refl
    (c.number.ensures ∙ ap (λ (s : State). s.number) c.in-Err.ensures.err ∙ ap (λ (s : State). s.number) (reached g.D.Disk was.start old.faults (tried_in (refusals_in old.found.items)) (taken.entries ++ []) old.shard
    (none_more g.D.Disk was.start old.faults (tried_in (refusals_in old.found.items)) taken.entries old.shard came)))
    (subst (λ (o : Option EntryNote). TriesAtMost (attempt_at c.number.result asked) (MayBeTried c.in-Err.fault) (tried_lent was.loans) (entry_tried c.args.self.now.client c.number.result o ++ tried_lent was.loans)) (sym c.deletion_attempt.ensures)
    (delete_tries_before (tried_lent was.loans) (attempt_at c.number.result asked) c.args.self.now.client c.number.result (Deleted c.of.result) (ap (λ (deletion : Deletion). attempt_at c.number.result (Delete c.args.self.now.client deletion)) c.of.ensures) c.in-Err.fault)))

pub returns-in-Ok-clause-ok : goal.returns-in-Ok-clause-ok
returns-in-Ok-clause-ok g c =
    let taken = c.take-held.ensures in
    let old = c.has_room.new.self in
    let was = c.args.self.now.pass.view in
    subst (λ (v : EngineView g.row.D.Denot). Accepts (Delete c.args.self.now.client c.args.deletion.now) c.in-Ok.number (told_over c.args.self.now.client was) (told_over c.args.self.now.client v))
    (sym (gave c.args.self.now.pass c.take-held.new.pass c.give-in-Ok.new.pass taken.entries _ _ _ (entered_by g.D.Disk (Delete c.args.self.now.client c.args.deletion.now) c.delete.new.shard ∷ []) _ (λ (l : List Lent). l) taken.now c.give-in-Ok.ensures))
    (accepts g.D.Disk was.start old.faults c.args.self.now.client (tried_in (refusals_in old.found.items)) (Delete c.args.self.now.client c.args.deletion.now) c.in-Ok.number was.seen taken.entries
    (entered_by g.D.Disk (Delete c.args.self.now.client c.args.deletion.now) c.delete.new.shard).moment was.own was.loans old.shard c.delete.new.shard taken.seen
    (roomy_reaches g.D.Disk was.start taken.entries c.take-held.result c.value-engine.result.now old c.value-engine.ensures.value c.has_room.ensures.shard c.has_room.ensures.faults c.has_room.ensures.found taken.stands_for)
    (delete_makes g.D.Disk c.args.self.now.client c.in-Ok.number c.args.deletion.now old.shard c.delete.new.shard c.in-Ok.ensures.ok c.delete.ensures.kept))
