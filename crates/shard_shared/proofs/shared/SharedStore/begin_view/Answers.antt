-- The view is lent behind all entries, and while the pass waits it has what it had.
use Rattle.std.proofs.Common.{◌+◌, ◌++◌, ◌∷◌, [], List, ap, sym, subst, refl, arith, false}
use Rattle.store_trait.specs.Calls.View.{Begins}
use Rattle.store_trait.specs.Told.{Keeps}
use Rattle.shard_steps.specs.declared.shard.Shard.{Shard}
use Rattle.shard_shared.specs.Entries.{AreFew, lent_by, most_found, refusals_in, tried_in}
use Rattle.shard_shared.specs.Reaching.{ComesTo, RanFrom}
use Rattle.shard_shared.specs.Told.{EngineView, told_over}
use Rattle.shard_shared.specs.declared.engine.Lent.{Lent}
use Rattle.shard_shared.specs.declared.engine.Lent.TheVariants.{View}
use Rattle.shard_shared.proofs.EntriesLemmas.{change_view}
use Rattle.shard_shared.proofs.ReachingLemmas.{from_any, ran_views, reaches_views}
use Rattle.shard_shared.proofs.ToldLemmas.{begins}
use Rattle.shard_shared.proofs.TurnLemmas.{Pass, Waits, after, begins_waited, gave, lent_few, lent_ran, lent_reaches, none_more, seen_more, told_keeps, waits_more}
use Rattle.shard_shared.proofs.shared.SharedStore.begin_view.Goals as goal

pub give-requires-clause-stands : goal.give-requires-clause-stands
give-requires-clause-stands g c =
    let taken = c.take-held.ensures in
    let old = c.value-engine.result.now in
    let start = c.loop.self.pass.view.start in
    rw (ap (λ (p : Pass g.row.D.Denot). p.view.start) taken.now, ap (λ (p : Pass g.row.D.Denot). p.view.seen) taken.now) (
      none_more g.D.Disk start old.faults (tried_in (refusals_in old.found.items)) taken.entries c.begin_view.new.shard
          (from_any g.D.Disk start old.faults old.faults (tried_in (refusals_in old.found.items)) (tried_in (refusals_in old.found.items)) taken.entries taken.entries old.shard c.begin_view.new.shard
          (λ s was. subst (λ (shard : Shard g.row.D.Denot). ComesTo g.D.Disk s old.faults (tried_in (refusals_in old.found.items)) taken.entries shard) (sym c.in-Ok.ensures.out)
          (reaches_views g.D.Disk s old.faults (old.shard.views + 1) (tried_in (refusals_in old.found.items)) taken.entries old.shard (let room = c.in-Ok.ensures.room in omega (arith, room)) was))
          (lent_reaches g.D.Disk start taken.entries c.take-held.result old c.value-engine.ensures.value taken.stands_for)),
      subst (λ (shard : Shard g.row.D.Denot). AreFew (refusals_in old.found.items) shard.logs.series.keys) (sym c.in-Ok.ensures.out)
          (lent_few g.D.Disk start taken.entries c.take-held.result old c.value-engine.ensures.value taken.stands_for),
      subst (λ (shard : Shard g.row.D.Denot). RanFrom g.D.Disk start (tried_in (refusals_in old.found.items)) (taken.entries ++ []) shard) (sym c.in-Ok.ensures.out)
          (ran_views g.D.Disk start (tried_in (refusals_in old.found.items)) taken.entries (old.shard.views + 1) old.shard
          (lent_ran g.D.Disk start taken.entries c.take-held.result old c.value-engine.ensures.value taken.stands_for)),
    )

pub give-requires-clause-loans : goal.give-requires-clause-loans
give-requires-clause-loans g c =
    let taken = c.take-held.ensures in
    let old = c.value-engine.result.now in
    rw (ap (λ (p : Pass g.row.D.Denot). p.view.loans_found) taken.now, ap (λ (p : Pass g.row.D.Denot). p.view.loans) taken.now, sym c.value-engine.ensures.value)
    (change_view old.shard.views old.faults (refusals_in old.found.items) c.begin_view.new.shard.views old.faults (refusals_in old.found.items) c.loop.self.pass.view.loans (ap (λ (s : Shard g.row.D.Denot). s.views) c.in-Ok.ensures.out) refl refl)

pub returns-in-Ok-clause-ok : goal.returns-in-Ok-clause-ok
returns-in-Ok-clause-ok g c =
    let taken = c.take-held.ensures in
    let old = c.value-engine.result.now in
    let was = c.loop.self.pass.view in
    begins_waited c.args.self.now.pass.view was c.give.new.pass.view c.args.self.now.client c.loop.self.client c.args.need.now c.in-Ok.view c.loop.invariant.1
    (subst (λ (v : EngineView g.row.D.Denot). Begins c.args.need.now c.in-Ok.view 0 false (told_over c.loop.self.client was) (told_over c.loop.self.client v))
    (sym (gave c.loop.self.pass c.take-held.new.pass c.give.new.pass taken.entries _ _ _ [] _ (λ (l : List Lent). View ∷ l) taken.now c.give.ensures))
    (begins g.D.Disk was.start old.faults c.loop.self.client (tried_in (refusals_in old.found.items)) c.args.need.now c.in-Ok.view was.seen (taken.entries ++ []) was.own was.loans old.shard
    (none_more g.D.Disk was.start old.faults (tried_in (refusals_in old.found.items)) taken.entries old.shard
    (lent_reaches g.D.Disk was.start taken.entries c.take-held.result old c.value-engine.ensures.value taken.stands_for)) c.in-Ok.ensures.ok))

pub returns-in-Ok-clause-kept : goal.returns-in-Ok-clause-kept
returns-in-Ok-clause-kept g c =
    let taken = c.take-held.ensures in
    let old = c.value-engine.result.now in
    let was = c.loop.self.pass.view in
    subst (λ (v : EngineView g.row.D.Denot). Keeps (told_over c.args.self.now.client c.args.self.now.pass.view) (told_over c.loop.self.client v))
    (sym (gave c.loop.self.pass c.take-held.new.pass c.give.new.pass taken.entries _ _ _ [] _ (λ (l : List Lent). View ∷ l) taken.now c.give.ensures))
    (told_keeps c.args.self.now.pass.view (after was taken.entries c.take-held.result.faults (lent_by c.take-held.result.shard.views c.take-held.result.faults (refusals_in c.take-held.result.found.items)) [] old.faults (View ∷ was.loans)) c.args.self.now.client c.loop.self.client
    c.loop.invariant.0 (ap (λ (l : List Lent). most_found l) c.loop.invariant.1.loans) c.loop.invariant.1.start (seen_more c.args.self.now.pass.view was c.loop.invariant.1 taken.entries taken.seen))

pub loop-preserved : goal.loop-preserved
loop-preserved g c =
    let taken = c.take-held.ensures in
    let was = c.loop.self.pass.view in (
      c.loop.invariant.0,
      subst (λ (v : EngineView g.row.D.Denot). Waits c.args.self.now.pass.view v)
          (sym (gave c.loop.self.pass c.take-held.new.pass c.give-in-Err-TooManyViews.new.pass taken.entries _ _ _ [] _ (λ (l : List Lent). l) taken.now c.give-in-Err-TooManyViews.ensures))
          (waits_more c.args.self.now.pass.view was c.loop.invariant.1 taken.entries c.take-held.result.faults (lent_by c.take-held.result.shard.views c.take-held.result.faults (refusals_in c.take-held.result.found.items)) c.value-engine.result.now.faults taken.seen),
    )
