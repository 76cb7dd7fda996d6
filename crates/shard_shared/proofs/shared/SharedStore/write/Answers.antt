-- The engine comes to one entry more, or stays at the same and notes how many series the batch found.
use Rattle.std.proofs.Common.{◌≡◌, ◌∙◌, ℕ, ◌+◌, ◌≤◌, ◌++◌, ◌∷◌, [], List, length, length-append, ap, sym, subst, refl, arith, Option}
use Rattle.std.specs.declared.snapshot.Snapshot.{Snapshot}
use Rattle.shard_steps.specs.declared.shard.Shard.{Shard}
use Rattle.tsdb_types.specs.declared.point.Point.{Point}
use Rattle.point_model.specs.declared.entry.Entry.TheVariants.{Write}
use Rattle.point_model.specs.Histories.{State}
use Rattle.history_turn.proofs.HistoriesLemmas.{starts_longer}
use Rattle.store_trait.specs.Calls.Write.{MayBeTried, WriteHasCause}
use Rattle.store_trait.specs.Told.{Keeps, Refuses, TriesAtMost}
use Rattle.store_trait.specs.Notes.{entry_noted}
use Rattle.store_trait.specs.declared.note.EntryNote.{EntryNote}
use Rattle.store_trait.specs.declared.note.EntryNote.TheVariants.{Written}
use Rattle.store_trait.specs.declared.fault.WriteFault.{WriteFault}
use Rattle.shard_steps.specs.Calls.Write.{HasCause}
use Rattle.shard_steps.specs.declared.facts.Facts.{Facts}
use Rattle.shard_calls.specs.Attempts.{attempt_of, entry_tried}
use Rattle.shard_calls.proofs.StoreLemmas.{attempt_at, same_attempt, write_makes, write_makes_none, write_stayed, write_tries_before}
use Rattle.shard_shared.specs.Entries.{faults_lent, most_found, refusals_in, tried_in, tried_lent}
use Rattle.shard_shared.specs.Reaching.{entered_by}
use Rattle.shard_shared.specs.Told.{EngineView, health_by, is_steady_at, number_at, told_over}
use Rattle.shard_shared.specs.declared.engine.Lent.{Lent}
use Rattle.shard_shared.specs.declared.engine.Lent.TheVariants.{Fault, Found}
use Rattle.shard_shared.specs.declared.engine.Refusal.{Refusal}
use Rattle.shard_shared.proofs.EntriesLemmas.{change_failed, change_found, change_same, few_grown, noted_refusals, tried_more}
use Rattle.shard_shared.proofs.ReachingLemmas.{failed_more, failed_same, from_any, ran_more, ran_same, ran_still, reaches_more, reaches_same}
use Rattle.shard_shared.proofs.ToldLemmas.{cause, failed, keeps, reached, refuses}
use Rattle.shard_shared.proofs.TurnLemmas.{Pass, fault_is, fault_isnt, gave, none_more, noted_few, quiet_answer, quiet_refusal, roomy_few, roomy_ran, roomy_reaches}
use Rattle.shard_shared.proofs.shared.SharedStore.write.Goals as goal

pub give-requires-clause-stands : goal.give-requires-clause-stands
give-requires-clause-stands g c =
    let taken = c.take-held.ensures in
    let old = c.has_room.new.self in
    let start = c.args.self.now.pass.view.start in
    rw (ap (λ (p : Pass g.row.D.Denot). p.view.start) taken.now, ap (λ (p : Pass g.row.D.Denot). p.view.seen) taken.now) (
      none_more g.D.Disk start old.faults (tried_in (refusals_in old.found.items)) taken.entries old.shard (roomy_reaches g.D.Disk start taken.entries c.take-held.result c.value-engine.result.now old c.value-engine.ensures.value c.has_room.ensures.shard c.has_room.ensures.faults c.has_room.ensures.found taken.stands_for),
      roomy_few g.D.Disk start taken.entries c.take-held.result c.value-engine.result.now old c.value-engine.ensures.value c.has_room.ensures.shard c.has_room.ensures.found taken.stands_for,
      ran_still g.D.Disk start (tried_in (refusals_in old.found.items)) taken.entries old.shard (roomy_ran g.D.Disk start taken.entries c.take-held.result c.value-engine.result.now old c.value-engine.ensures.value c.has_room.ensures.shard c.has_room.ensures.found taken.stands_for),
    )

pub give-requires-clause-loans : goal.give-requires-clause-loans
give-requires-clause-loans g c =
    let taken = c.take-held.ensures in
    let was = c.value-engine.result.now in
    rw (ap (λ (p : Pass g.row.D.Denot). p.view.loans_found) taken.now, ap (λ (p : Pass g.row.D.Denot). p.view.loans) taken.now, sym c.value-engine.ensures.value)
    (change_same was.shard.views was.faults (refusals_in was.found.items) c.has_room.new.self.shard.views c.has_room.new.self.faults (refusals_in c.has_room.new.self.found.items)
    c.args.self.now.pass.view.loans (ap (λ (s : Shard g.row.D.Denot). s.views) c.has_room.ensures.shard) c.has_room.ensures.faults
    (ap (λ (l : List (Snapshot Refusal)). refusals_in l) c.has_room.ensures.found))

pub give-requires-in-Ok-clause-loans : goal.give-requires-in-Ok-clause-loans
give-requires-in-Ok-clause-loans g c =
    let taken = c.take-held.ensures in
    let was = c.value-engine.result.now in
    rw (ap (λ (p : Pass g.row.D.Denot). p.view.loans_found) taken.now, ap (λ (p : Pass g.row.D.Denot). p.view.loans) taken.now, sym c.value-engine.ensures.value)
    (change_same was.shard.views was.faults (refusals_in was.found.items) c.write.new.shard.views c.has_room.new.self.faults (refusals_in c.has_room.new.self.found.items)
    c.args.self.now.pass.view.loans (c.write.ensures.kept.views ∙ ap (λ (s : Shard g.row.D.Denot). s.views) c.has_room.ensures.shard) c.has_room.ensures.faults
    (ap (λ (l : List (Snapshot Refusal)). refusals_in l) c.has_room.ensures.found))

pub give-requires-in-Ok-clause-stands : goal.give-requires-in-Ok-clause-stands
give-requires-in-Ok-clause-stands g c =
    let taken = c.take-held.ensures in
    let old = c.has_room.new.self in
    let start = c.args.self.now.pass.view.start in
    rw (ap (λ (p : Pass g.row.D.Denot). p.view.start) taken.now, ap (λ (p : Pass g.row.D.Denot). p.view.seen) taken.now) (
      from_any g.D.Disk start old.faults old.faults (tried_in (refusals_in old.found.items)) (tried_in (refusals_in old.found.items)) taken.entries (taken.entries ++ entered_by g.D.Disk (Write c.args.self.now.client c.args.batch.now) c.write.new.shard ∷ []) old.shard c.write.new.shard
          (λ s was. reaches_more g.D.Disk s (Write c.args.self.now.client c.args.batch.now) c.in-Ok.number old.faults (tried_in (refusals_in old.found.items)) taken.entries old.shard c.write.new.shard
          (write_makes c.args.self.now.client c.in-Ok.number c.args.batch.now old.shard c.write.new.shard c.in-Ok.ensures.ok c.write.ensures.kept c.write.ensures.goes_on.series) c.write.ensures.ready
          c.write.ensures.goes_on.handed_out (c.in-Ok.ensures.quiet (quiet_answer c.in-Ok.number)) was)
          (roomy_reaches g.D.Disk start taken.entries c.take-held.result c.value-engine.result.now old c.value-engine.ensures.value c.has_room.ensures.shard c.has_room.ensures.faults c.has_room.ensures.found taken.stands_for),
      few_grown (refusals_in old.found.items) old.shard.logs.series.keys c.write.ensures.kept.more c.write.new.shard.logs.series.keys (roomy_few g.D.Disk start taken.entries c.take-held.result c.value-engine.result.now old c.value-engine.ensures.value c.has_room.ensures.shard c.has_room.ensures.found taken.stands_for) c.write.ensures.kept.series,
      ran_more g.D.Disk start (Write c.args.self.now.client c.args.batch.now) (tried_in (refusals_in old.found.items)) taken.entries old.shard c.write.new.shard c.in-Ok.ensures.goes_on.ok
          (roomy_ran g.D.Disk start taken.entries c.take-held.result c.value-engine.result.now old c.value-engine.ensures.value c.has_room.ensures.shard c.has_room.ensures.found taken.stands_for),
    )

pub give-requires-then-tells_fault-clause-stands : goal.give-requires-then-tells_fault-clause-stands
give-requires-then-tells_fault-clause-stands g c =
    let taken = c.take-held.ensures in
    let old = c.has_room.new.self in
    let start = c.args.self.now.pass.view.start in
    let refusal : Refusal = record { client = c.args.self.now.client; series = c.facts.result.series; number = c.number.result; tried = c.attempt.result } in
    let tried = tried_in (refusals_in old.found.items) in
    let more = entry_tried c.args.self.now.client c.number.result (attempt_of c.in-Err.fault (Written c.of.result)) in
    let now = tried_in (refusals_in c.note.new.found.items) in
    let grows : now ≡ tried ++ more =
    tried_more old.found.items c.note.new.found.items c.of-in-Err.result refusal c.note.ensures c.of-in-Err.ensures
    ∙ ap (λ (o : Option EntryNote). tried_in (refusals_in old.found.items) ++ entry_tried c.args.self.now.client c.number.result o) c.attempt.ensures in
    let stayed = write_stayed g.D.Disk _ c.args.self.now.client c.number.result (Write c.args.self.now.client c.args.batch.now) (Written c.of.result) old.shard c.write.new.shard c.in-Err.fault
    (same_attempt c.number.result old.shard.logs.number (entry_noted c.args.self.now.client (Written c.of.result)) (Write c.args.self.now.client c.args.batch.now) (c.number.ensures ∙ ap (λ (s : State). s.number) c.in-Err.ensures.err)
    (ap (λ (points : List Point). Write c.args.self.now.client points) c.of.ensures)) c.in-Err.ensures.goes_on.stays c.in-Err.ensures.goes_on.untouched in
    rw (ap (λ (p : Pass g.row.D.Denot). p.view.start) taken.now, ap (λ (p : Pass g.row.D.Denot). p.view.seen) taken.now) (
      none_more g.D.Disk start (old.faults + 1) now taken.entries c.write.new.shard
          (from_any g.D.Disk start old.faults (old.faults + 1) tried now taken.entries taken.entries old.shard c.write.new.shard
          (λ s was. reaches_same g.D.Disk s (old.faults + 1) old.faults (Write c.args.self.now.client c.args.batch.now) _ tried more now taken.entries old.shard c.write.new.shard
          (write_makes_none c.args.self.now.client c.args.batch.now old.shard c.write.new.shard c.in-Err.ensures.err c.write.ensures.kept c.write.ensures.goes_on.series) stayed grows c.write.ensures.ready c.write.ensures.goes_on.handed_out
          (failed_more (g.D.Disk.health s.logs.disk) (g.D.Disk.health old.shard.logs.disk) (g.D.Disk.health c.write.new.shard.logs.disk) old.faults was.health c.write.ensures.ages
          (subst (λ (why : WriteFault). HasCause c.args.batch.now old.shard (g.D.Disk.health old.shard.logs.disk) (g.D.Disk.health c.write.new.shard.logs.disk) why)
          (fault_is c.in-Err.fault (sym c.tells_fault.ensures ∙ c.if-tells_fault.true)) c.in-Err.ensures.refused).0) was)
          (roomy_reaches g.D.Disk start taken.entries c.take-held.result c.value-engine.result.now old c.value-engine.ensures.value c.has_room.ensures.shard c.has_room.ensures.faults c.has_room.ensures.found taken.stands_for)),
      noted_few old.found.items c.note.new.found.items c.of-in-Err.result refusal old.shard.logs.series.keys c.write.ensures.kept.more c.write.new.shard.logs.series.keys c.note.ensures c.of-in-Err.ensures c.write.ensures.kept.series (ap (λ (f : Facts). f.series) c.facts.ensures.are)
          (roomy_few g.D.Disk start taken.entries c.take-held.result c.value-engine.result.now old c.value-engine.ensures.value c.has_room.ensures.shard c.has_room.ensures.found taken.stands_for),
      ran_same g.D.Disk start (Write c.args.self.now.client c.args.batch.now) _ tried more now taken.entries old.shard c.write.new.shard stayed grows
          (roomy_ran g.D.Disk start taken.entries c.take-held.result c.value-engine.result.now old c.value-engine.ensures.value c.has_room.ensures.shard c.has_room.ensures.found taken.stands_for),
    )

pub give-requires-then-tells_fault-clause-loans : goal.give-requires-then-tells_fault-clause-loans
give-requires-then-tells_fault-clause-loans g c =
    let taken = c.take-held.ensures in
    let was = c.value-engine.result.now in
    rw (ap (λ (p : Pass g.row.D.Denot). p.view.loans_found) taken.now, ap (λ (p : Pass g.row.D.Denot). p.view.loans) taken.now, sym c.value-engine.ensures.value)
    (change_failed was.shard.views was.faults (refusals_in was.found.items) c.write.new.shard.views (c.has_room.new.self.faults + 1) (refusals_in c.note.new.found.items) (record { client = c.args.self.now.client; series = c.facts.result.series; number = c.number.result; tried = c.attempt.result })
    c.args.self.now.pass.view.loans (c.write.ensures.kept.views ∙ ap (λ (s : Shard g.row.D.Denot). s.views) c.has_room.ensures.shard) (ap (λ n. n + 1) c.has_room.ensures.faults)
    (noted_refusals was.found.items c.note.new.found.items c.of-in-Err.result (record { client = c.args.self.now.client; series = c.facts.result.series; number = c.number.result; tried = c.attempt.result })
    (c.note.ensures ∙ ap (λ (l : List (Snapshot Refusal)). l ++ c.of-in-Err.result ∷ []) c.has_room.ensures.found) c.of-in-Err.ensures))

pub give-requires-in-Err-clause-stands : goal.give-requires-in-Err-clause-stands
give-requires-in-Err-clause-stands g c =
    let taken = c.take-held.ensures in
    let old = c.has_room.new.self in
    let start = c.args.self.now.pass.view.start in
    let refusal : Refusal = record { client = c.args.self.now.client; series = c.facts.result.series; number = c.number.result; tried = c.attempt.result } in
    let tried = tried_in (refusals_in old.found.items) in
    let more = entry_tried c.args.self.now.client c.number.result (attempt_of c.in-Err.fault (Written c.of.result)) in
    let now = tried_in (refusals_in c.note.new.found.items) in
    let grows : now ≡ tried ++ more =
    tried_more old.found.items c.note.new.found.items c.of-in-Err.result refusal c.note.ensures c.of-in-Err.ensures
    ∙ ap (λ (o : Option EntryNote). tried_in (refusals_in old.found.items) ++ entry_tried c.args.self.now.client c.number.result o) c.attempt.ensures in
    let stayed = write_stayed g.D.Disk _ c.args.self.now.client c.number.result (Write c.args.self.now.client c.args.batch.now) (Written c.of.result) old.shard c.write.new.shard c.in-Err.fault
    (same_attempt c.number.result old.shard.logs.number (entry_noted c.args.self.now.client (Written c.of.result)) (Write c.args.self.now.client c.args.batch.now) (c.number.ensures ∙ ap (λ (s : State). s.number) c.in-Err.ensures.err)
    (ap (λ (points : List Point). Write c.args.self.now.client points) c.of.ensures)) c.in-Err.ensures.goes_on.stays c.in-Err.ensures.goes_on.untouched in
    rw (ap (λ (p : Pass g.row.D.Denot). p.view.start) taken.now, ap (λ (p : Pass g.row.D.Denot). p.view.seen) taken.now) (
      none_more g.D.Disk start old.faults now taken.entries c.write.new.shard
          (from_any g.D.Disk start old.faults old.faults tried now taken.entries taken.entries old.shard c.write.new.shard
          (λ s was. reaches_same g.D.Disk s old.faults old.faults (Write c.args.self.now.client c.args.batch.now) _ tried more now taken.entries old.shard c.write.new.shard
          (write_makes_none c.args.self.now.client c.args.batch.now old.shard c.write.new.shard c.in-Err.ensures.err c.write.ensures.kept c.write.ensures.goes_on.series) stayed grows c.write.ensures.ready c.write.ensures.goes_on.handed_out
          (failed_same (g.D.Disk.health s.logs.disk) (g.D.Disk.health old.shard.logs.disk) (g.D.Disk.health c.write.new.shard.logs.disk) old.faults was.health
          (c.in-Err.ensures.quiet (quiet_refusal c.in-Err.fault (sym c.tells_fault.ensures ∙ c.if-tells_fault.false)))) was)
          (roomy_reaches g.D.Disk start taken.entries c.take-held.result c.value-engine.result.now old c.value-engine.ensures.value c.has_room.ensures.shard c.has_room.ensures.faults c.has_room.ensures.found taken.stands_for)),
      noted_few old.found.items c.note.new.found.items c.of-in-Err.result refusal old.shard.logs.series.keys c.write.ensures.kept.more c.write.new.shard.logs.series.keys c.note.ensures c.of-in-Err.ensures c.write.ensures.kept.series (ap (λ (f : Facts). f.series) c.facts.ensures.are)
          (roomy_few g.D.Disk start taken.entries c.take-held.result c.value-engine.result.now old c.value-engine.ensures.value c.has_room.ensures.shard c.has_room.ensures.found taken.stands_for),
      ran_same g.D.Disk start (Write c.args.self.now.client c.args.batch.now) _ tried more now taken.entries old.shard c.write.new.shard stayed grows
          (roomy_ran g.D.Disk start taken.entries c.take-held.result c.value-engine.result.now old c.value-engine.ensures.value c.has_room.ensures.shard c.has_room.ensures.found taken.stands_for),
    )

pub give-requires-in-Err-clause-loans : goal.give-requires-in-Err-clause-loans
give-requires-in-Err-clause-loans g c =
    let taken = c.take-held.ensures in
    let was = c.value-engine.result.now in
    rw (ap (λ (p : Pass g.row.D.Denot). p.view.loans_found) taken.now, ap (λ (p : Pass g.row.D.Denot). p.view.loans) taken.now, sym c.value-engine.ensures.value)
    (change_found was.shard.views was.faults (refusals_in was.found.items) c.write.new.shard.views c.has_room.new.self.faults (refusals_in c.note.new.found.items) (record { client = c.args.self.now.client; series = c.facts.result.series; number = c.number.result; tried = c.attempt.result })
    c.args.self.now.pass.view.loans (c.write.ensures.kept.views ∙ ap (λ (s : Shard g.row.D.Denot). s.views) c.has_room.ensures.shard) c.has_room.ensures.faults
    (noted_refusals was.found.items c.note.new.found.items c.of-in-Err.result (record { client = c.args.self.now.client; series = c.facts.result.series; number = c.number.result; tried = c.attempt.result })
    (c.note.ensures ∙ ap (λ (l : List (Snapshot Refusal)). l ++ c.of-in-Err.result ∷ []) c.has_room.ensures.found) c.of-in-Err.ensures))

pub returns-then-tells_fault-clause-kept : goal.returns-then-tells_fault-clause-kept
returns-then-tells_fault-clause-kept g c =
    let taken = c.take-held.ensures in
    let was = c.args.self.now.pass.view in
    subst (λ (v : EngineView g.row.D.Denot). Keeps (told_over c.args.self.now.client was) (told_over c.args.self.now.client v))
    (sym (gave c.args.self.now.pass c.take-held.new.pass c.give-then-tells_fault.new.pass taken.entries _ _ _ [] _ (λ (l : List Lent). Fault ∷ Found (record { client = c.args.self.now.client; series = c.facts.result.series; number = c.number.result; tried = c.attempt.result }) ∷ l) taken.now c.give-then-tells_fault.ensures))
    (keeps c.args.self.now.client was.start was.seen (taken.entries ++ []) was.own was.own was.loans (Fault ∷ Found (record { client = c.args.self.now.client; series = c.facts.result.series; number = c.number.result; tried = c.attempt.result }) ∷ was.loans)
    (starts_longer taken.entries was.seen [] taken.seen) (omega arith))

pub returns-then-tells_fault-clause-refused : goal.returns-then-tells_fault-clause-refused
returns-then-tells_fault-clause-refused g c =
    let taken = c.take-held.ensures in
    let old = c.has_room.new.self in
    let was = c.args.self.now.pass.view in
    let start = was.start in
    let came = roomy_reaches g.D.Disk start taken.entries c.take-held.result c.value-engine.result.now old c.value-engine.ensures.value c.has_room.ensures.shard c.has_room.ensures.faults c.has_room.ensures.found taken.stands_for in
    let few : length old.shard.logs.series.keys ≤ most_found (Fault ∷ Found (record { client = c.args.self.now.client; series = c.facts.result.series; number = c.number.result; tried = c.attempt.result }) ∷ was.loans) =
    let held = ap (λ (f : Facts). f.series) c.facts.ensures.are in
    let more = ap (λ (l : List (List ℕ)). length l) c.write.ensures.kept.series in
    let sum = length-append old.shard.logs.series.keys c.write.ensures.kept.more in
    omega (arith, held, more, sum) in
    subst (λ (v : EngineView g.row.D.Denot). WriteHasCause c.args.batch.now (told_over c.args.self.now.client v) (health_by g.D.Disk was) (health_by g.D.Disk v) c.in-Err.fault)
    (sym (gave c.args.self.now.pass c.take-held.new.pass c.give-then-tells_fault.new.pass taken.entries _ _ _ [] _ (λ (l : List Lent). Fault ∷ Found (record { client = c.args.self.now.client; series = c.facts.result.series; number = c.number.result; tried = c.attempt.result }) ∷ l) taken.now c.give-then-tells_fault.ensures))
    (cause g.D.Disk was.start old.faults c.args.self.now.client (tried_in (refusals_in old.found.items)) c.args.batch.now (taken.entries ++ []) was.own (Fault ∷ Found (record { client = c.args.self.now.client; series = c.facts.result.series; number = c.number.result; tried = c.attempt.result }) ∷ was.loans) old.shard
    (none_more g.D.Disk was.start old.faults (tried_in (refusals_in old.found.items)) taken.entries old.shard came) few
    (g.D.Disk.health old.shard.logs.disk) (g.D.Disk.health c.write.new.shard.logs.disk) (health_by g.D.Disk was) (record { faults = faults_lent was.loans + 1; is_steady = is_steady_at g.D.Disk was.start }) c.in-Err.fault
    (λ is fails. failed g.D.Disk was.start old.faults (faults_lent was.loans) (tried_in (refusals_in old.found.items)) taken.entries old.shard (g.D.Disk.health c.write.new.shard.logs.disk) came fails)
    c.in-Err.ensures.refused)

pub returns-else-tells_fault-clause-kept : goal.returns-else-tells_fault-clause-kept
returns-else-tells_fault-clause-kept g c =
    let taken = c.take-held.ensures in
    let was = c.args.self.now.pass.view in
    subst (λ (v : EngineView g.row.D.Denot). Keeps (told_over c.args.self.now.client was) (told_over c.args.self.now.client v))
    (sym (gave c.args.self.now.pass c.take-held.new.pass c.give-in-Err.new.pass taken.entries _ _ _ [] _ (λ (l : List Lent). Found (record { client = c.args.self.now.client; series = c.facts.result.series; number = c.number.result; tried = c.attempt.result }) ∷ l) taken.now c.give-in-Err.ensures))
    (keeps c.args.self.now.client was.start was.seen (taken.entries ++ []) was.own was.own was.loans (Found (record { client = c.args.self.now.client; series = c.facts.result.series; number = c.number.result; tried = c.attempt.result }) ∷ was.loans)
    (starts_longer taken.entries was.seen [] taken.seen) (omega arith))

pub returns-else-tells_fault-clause-refused : goal.returns-else-tells_fault-clause-refused
returns-else-tells_fault-clause-refused g c =
    let taken = c.take-held.ensures in
    let old = c.has_room.new.self in
    let was = c.args.self.now.pass.view in
    let start = was.start in
    let came = roomy_reaches g.D.Disk start taken.entries c.take-held.result c.value-engine.result.now old c.value-engine.ensures.value c.has_room.ensures.shard c.has_room.ensures.faults c.has_room.ensures.found taken.stands_for in
    let few : length old.shard.logs.series.keys ≤ most_found (Found (record { client = c.args.self.now.client; series = c.facts.result.series; number = c.number.result; tried = c.attempt.result }) ∷ was.loans) =
    let held = ap (λ (f : Facts). f.series) c.facts.ensures.are in
    let more = ap (λ (l : List (List ℕ)). length l) c.write.ensures.kept.series in
    let sum = length-append old.shard.logs.series.keys c.write.ensures.kept.more in
    omega (arith, held, more, sum) in
    subst (λ (v : EngineView g.row.D.Denot). WriteHasCause c.args.batch.now (told_over c.args.self.now.client v) (health_by g.D.Disk was) (health_by g.D.Disk v) c.in-Err.fault)
    (sym (gave c.args.self.now.pass c.take-held.new.pass c.give-in-Err.new.pass taken.entries _ _ _ [] _ (λ (l : List Lent). Found (record { client = c.args.self.now.client; series = c.facts.result.series; number = c.number.result; tried = c.attempt.result }) ∷ l) taken.now c.give-in-Err.ensures))
    (cause g.D.Disk was.start old.faults c.args.self.now.client (tried_in (refusals_in old.found.items)) c.args.batch.now (taken.entries ++ []) was.own (Found (record { client = c.args.self.now.client; series = c.facts.result.series; number = c.number.result; tried = c.attempt.result }) ∷ was.loans) old.shard
    (none_more g.D.Disk was.start old.faults (tried_in (refusals_in old.found.items)) taken.entries old.shard came) few
    (g.D.Disk.health old.shard.logs.disk) (g.D.Disk.health c.write.new.shard.logs.disk) (health_by g.D.Disk was) (health_by g.D.Disk was) c.in-Err.fault
    (λ is fails. absurd (fault_isnt c.in-Err.fault (sym c.tells_fault.ensures ∙ c.if-tells_fault.false) is))
    c.in-Err.ensures.refused)

pub returns-in-Ok-clause-kept : goal.returns-in-Ok-clause-kept
returns-in-Ok-clause-kept g c =
    let taken = c.take-held.ensures in
    let was = c.args.self.now.pass.view in
    let entered = entered_by g.D.Disk (Write c.args.self.now.client c.args.batch.now) c.write.new.shard in
    subst (λ (v : EngineView g.row.D.Denot). Keeps (told_over c.args.self.now.client was) (told_over c.args.self.now.client v))
    (sym (gave c.args.self.now.pass c.take-held.new.pass c.give-in-Ok.new.pass taken.entries _ _ _ (entered ∷ []) _ (λ (l : List Lent). l) taken.now c.give-in-Ok.ensures))
    (keeps c.args.self.now.client was.start was.seen (taken.entries ++ entered ∷ []) was.own ((number_at was.start + length taken.entries + 1) ∷ was.own) was.loans was.loans
    (starts_longer taken.entries was.seen (entered ∷ []) taken.seen) (omega arith))

pub returns-then-tells_fault-clause-err : goal.returns-then-tells_fault-clause-err
returns-then-tells_fault-clause-err g c =
    let taken = c.take-held.ensures in
    let old = c.has_room.new.self in
    let was = c.args.self.now.pass.view in
    let came = roomy_reaches g.D.Disk was.start taken.entries c.take-held.result c.value-engine.result.now old c.value-engine.ensures.value c.has_room.ensures.shard c.has_room.ensures.faults c.has_room.ensures.found taken.stands_for in
    let asked = Write c.args.self.now.client c.args.batch.now in
    subst (λ (v : EngineView g.row.D.Denot). Refuses asked (MayBeTried c.in-Err.fault) (told_over c.args.self.now.client was) (told_over c.args.self.now.client v))
    (sym (gave c.args.self.now.pass c.take-held.new.pass c.give-then-tells_fault.new.pass taken.entries _ _ _ [] _ (λ (l : List Lent). Fault ∷ Found (record { client = c.args.self.now.client; series = c.facts.result.series; number = c.number.result; tried = c.attempt.result }) ∷ l) taken.now c.give-then-tells_fault.ensures))
    (refuses c.args.self.now.client was.start c.number.result asked (MayBeTried c.in-Err.fault) was.seen (taken.entries ++ []) was.own was.loans (Fault ∷ Found (record { client = c.args.self.now.client; series = c.facts.result.series; number = c.number.result; tried = c.attempt.result }) ∷ was.loans) refl
    (c.number.ensures ∙ ap (λ (s : State). s.number) c.in-Err.ensures.err ∙ ap (λ (s : State). s.number) (reached g.D.Disk was.start old.faults (tried_in (refusals_in old.found.items)) (taken.entries ++ []) old.shard
    (none_more g.D.Disk was.start old.faults (tried_in (refusals_in old.found.items)) taken.entries old.shard came)))
    (subst (λ (o : Option EntryNote). TriesAtMost (attempt_at c.number.result asked) (MayBeTried c.in-Err.fault) (tried_lent was.loans) (entry_tried c.args.self.now.client c.number.result o ++ tried_lent was.loans)) (sym c.attempt.ensures)
    (write_tries_before (tried_lent was.loans) (attempt_at c.number.result asked) c.args.self.now.client c.number.result (Written c.of.result) (ap (λ (points : List Point). attempt_at c.number.result (Write c.args.self.now.client points)) c.of.ensures) c.in-Err.fault)))

pub returns-else-tells_fault-clause-err : goal.returns-else-tells_fault-clause-err
returns-else-tells_fault-clause-err g c =
    let taken = c.take-held.ensures in
    let old = c.has_room.new.self in
    let was = c.args.self.now.pass.view in
    let came = roomy_reaches g.D.Disk was.start taken.entries c.take-held.result c.value-engine.result.now old c.value-engine.ensures.value c.has_room.ensures.shard c.has_room.ensures.faults c.has_room.ensures.found taken.stands_for in
    let asked = Write c.args.self.now.client c.args.batch.now in
    subst (λ (v : EngineView g.row.D.Denot). Refuses asked (MayBeTried c.in-Err.fault) (told_over c.args.self.now.client was) (told_over c.args.self.now.client v))
    (sym (gave c.args.self.now.pass c.take-held.new.pass c.give-in-Err.new.pass taken.entries _ _ _ [] _ (λ (l : List Lent). Found (record { client = c.args.self.now.client; series = c.facts.result.series; number = c.number.result; tried = c.attempt.result }) ∷ l) taken.now c.give-in-Err.ensures))
    (refuses c.args.self.now.client was.start c.number.result asked (MayBeTried c.in-Err.fault) was.seen (taken.entries ++ []) was.own was.loans (Found (record { client = c.args.self.now.client; series = c.facts.result.series; number = c.number.result; tried = c.attempt.result }) ∷ was.loans) refl
    (c.number.ensures ∙ ap (λ (s : State). s.number) c.in-Err.ensures.err ∙ ap (λ (s : State). s.number) (reached g.D.Disk was.start old.faults (tried_in (refusals_in old.found.items)) (taken.entries ++ []) old.shard
    (none_more g.D.Disk was.start old.faults (tried_in (refusals_in old.found.items)) taken.entries old.shard came)))
    (subst (λ (o : Option EntryNote). TriesAtMost (attempt_at c.number.result asked) (MayBeTried c.in-Err.fault) (tried_lent was.loans) (entry_tried c.args.self.now.client c.number.result o ++ tried_lent was.loans)) (sym c.attempt.ensures)
    (write_tries_before (tried_lent was.loans) (attempt_at c.number.result asked) c.args.self.now.client c.number.result (Written c.of.result) (ap (λ (points : List Point). attempt_at c.number.result (Write c.args.self.now.client points)) c.of.ensures) c.in-Err.fault)))
