-- The view is one of the engine's, since it is one of the pass's.
use Rattle.std.proofs.Common.{◌∙◌, ℕ, ◌<◌, ◌++◌, [], List, ap, sym, subst, refl, arith}
use Rattle.store_trait.specs.Calls.View.{Ends}
use Rattle.store_trait.specs.Told.{Keeps}
use Rattle.history_turn.proofs.HistoriesLemmas.{starts_longer}
use Rattle.shard_steps.specs.declared.shard.Shard.{Shard}
use Rattle.shard_shared.proofs.ToldLemmas.{keeps}
use Rattle.shard_shared.specs.Entries.{AreFew, refusals_in, tried_in, without_view}
use Rattle.shard_shared.specs.Reaching.{ComesTo, RanFrom}
use Rattle.shard_shared.specs.Told.{EngineView, health_by, is_steady_at, told_over}
use Rattle.shard_shared.specs.declared.engine.Engine.{Engine}
use Rattle.shard_shared.specs.declared.engine.Lent.{Lent}
use Rattle.shard_shared.proofs.EntriesLemmas.{change_ended, faults-without, found-without, tried-without, view_out, views-without}
use Rattle.shard_shared.proofs.ReachingLemmas.{from_any, ran_views, reaches_views}
use Rattle.shard_shared.proofs.TurnLemmas.{Pass, gave, lent_few, lent_ran, lent_reaches, none_more, takes_back}
use Rattle.shard_shared.proofs.shared.SharedStore.end_view.Goals as goal

pub end_view-requires : goal.end_view-requires
end_view-requires g c =
    subst (λ (e : Engine g.row.D.Denot). 0 < e.shard.views) (sym c.value-engine.ensures.value)
    (view_out c.take-held.result.shard.views c.take-held.result.faults (refusals_in c.take-held.result.found.items) 0 c.args.self.now.pass.view.loans c.requires c.take-held.ensures.loans)

pub give-requires-clause-stands : goal.give-requires-clause-stands
give-requires-clause-stands g c =
    let taken = c.take-held.ensures in
    let old = c.value-engine.result.now in
    let start = c.args.self.now.pass.view.start in
    rw (ap (λ (p : Pass g.row.D.Denot). p.view.start) taken.now, ap (λ (p : Pass g.row.D.Denot). p.view.seen) taken.now) (
      none_more g.D.Disk start old.faults (tried_in (refusals_in old.found.items)) taken.entries c.end_view.new.shard
          (from_any g.D.Disk start old.faults old.faults (tried_in (refusals_in old.found.items)) (tried_in (refusals_in old.found.items)) taken.entries taken.entries old.shard c.end_view.new.shard
          (λ s was. subst (λ (shard : Shard g.row.D.Denot). ComesTo g.D.Disk s old.faults (tried_in (refusals_in old.found.items)) taken.entries shard) (sym c.end_view.ensures.same)
          (reaches_views g.D.Disk s old.faults c.end_view.new.shard.views (tried_in (refusals_in old.found.items)) taken.entries old.shard (let one = c.end_view.ensures.views in let few = was.ready.views in omega (arith, one, few)) was))
          (lent_reaches g.D.Disk start taken.entries c.take-held.result old c.value-engine.ensures.value taken.stands_for)),
      subst (λ (shard : Shard g.row.D.Denot). AreFew (refusals_in old.found.items) shard.logs.series.keys) (sym c.end_view.ensures.same)
          (lent_few g.D.Disk start taken.entries c.take-held.result old c.value-engine.ensures.value taken.stands_for),
      subst (λ (shard : Shard g.row.D.Denot). RanFrom g.D.Disk start (tried_in (refusals_in old.found.items)) (taken.entries ++ []) shard) (sym c.end_view.ensures.same)
          (ran_views g.D.Disk start (tried_in (refusals_in old.found.items)) taken.entries c.end_view.new.shard.views old.shard
          (lent_ran g.D.Disk start taken.entries c.take-held.result old c.value-engine.ensures.value taken.stands_for)),
    )

pub give-requires-clause-loans : goal.give-requires-clause-loans
give-requires-clause-loans g c =
    let taken = c.take-held.ensures in
    let old = c.value-engine.result.now in
    rw (ap (λ (p : Pass g.row.D.Denot). p.view.loans_found) taken.now, ap (λ (p : Pass g.row.D.Denot). p.view.loans) taken.now, sym c.value-engine.ensures.value)
    (change_ended old.shard.views old.faults (refusals_in old.found.items) c.end_view.new.shard.views old.faults (refusals_in old.found.items) 0 c.args.self.now.pass.view.loans c.end_view.ensures.views refl refl c.requires)

pub returns-clause-ended : goal.returns-clause-ended
returns-clause-ended g c =
    let was = c.args.self.now.pass.view in
    subst (λ (v : EngineView g.row.D.Denot). Ends 0 (told_over c.args.self.now.client was) (told_over c.args.self.now.client v))
    (sym (gave c.args.self.now.pass c.take-held.new.pass c.give.new.pass c.take-held.ensures.entries _ _ _ [] _ (λ (l : List Lent). without_view l) c.take-held.ensures.now c.give.ensures))
    (record { own = refl; tried = tried-without was.loans; out = views-without was.loans })

pub returns-clause-kept : goal.returns-clause-kept
returns-clause-kept g c =
    let taken = c.take-held.ensures in
    let was = c.args.self.now.pass.view in
    subst (λ (v : EngineView g.row.D.Denot). Keeps (told_over c.args.self.now.client was) (told_over c.args.self.now.client v))
    (sym (gave c.args.self.now.pass c.take-held.new.pass c.give.new.pass taken.entries _ _ _ [] _ (λ (l : List Lent). without_view l) taken.now c.give.ensures))
    (keeps c.args.self.now.client was.start was.seen (taken.entries ++ []) was.own was.own was.loans (without_view was.loans)
    (starts_longer taken.entries was.seen [] taken.seen) (let same = found-without was.loans in omega (arith, same)))

pub returns-clause-health : goal.returns-clause-health
returns-clause-health g c =
    let was = c.args.self.now.pass.view in
    takes_back (health_by g.D.Disk was) (health_by g.D.Disk c.give.new.pass.view)
    (ap (λ (v : EngineView g.row.D.Denot). health_by g.D.Disk v)
    (gave c.args.self.now.pass c.take-held.new.pass c.give.new.pass c.take-held.ensures.entries _ _ _ [] _ (λ (l : List Lent). without_view l) c.take-held.ensures.now c.give.ensures)
    ∙ ap (λ (n : ℕ). record { faults = n; is_steady = is_steady_at g.D.Disk was.start }) (faults-without was.loans))
