-- From the rows that the cursor gives, one after another.
use Rattle.std.proofs.Common.{◌∙◌, subst, sym, Some, None, List, Option}
use Rattle.shard_disk.proofs.HealthLemmas.{ages_then}
use Rattle.point_model.specs.Rows.{Row}
use Rattle.point_model.specs.Cursors.{Advances, TakesOf}
use Rattle.session_loop.specs.declared.select.Found.{Found}
use Rattle.session_loop.specs.Merged.{TakesKey, TakesFront}
use Rattle.session_loop.proofs.TakingLemmas.{told_then, front_all, front_more}
use Rattle.session_loop.proofs.select.take_key.Goals as goal

pub returns-in-None-clause-ok : goal.returns-in-None-clause-ok
returns-in-None-clause-ok g c =
    let shown = g.V.PointCursor.shown in
    let key = c.args.key in
    let old = c.args.found.now.items in
    let now = c.loop.found.items in
    let advanced = subst (λ (a : Option Row). Advances key a (shown c.loop.view) (shown c.next.new.self)) c.in-None.is c.in_ok-next.ensures.ok in
    told_then (TakesFront key old now) (TakesOf key None) (TakesKey key old now) (shown c.args.view.now).left (shown c.loop.view).left (shown c.next.new.self).left
    (λ x y z a b. front_all key old now x y z a b) c.loop.invariant.taken advanced.rows

pub loop-preserved : goal.loop-preserved
loop-preserved g c =
    let shown = g.V.PointCursor.shown in
    let health = g.V.PointCursor.health in
    let before = c.loop.invariant in
    let call = c.in_ok-next.ensures in
    let key = c.args.key in
    let row = c.in-Some.row in
    let old = c.args.found.now.items in
    let now = c.loop.found.items in
    let advanced = subst (λ (a : Option Row). Advances key a (shown c.loop.view) (shown c.next.new.self)) c.in-Some.is call.ok in
    record {
      usable = call.usable;
      keys = advanced.keys ∙ before.keys;
      taken = told_then (TakesFront key old now) (TakesOf key (Some row)) (TakesFront key old c.push.new.self.items) (shown c.args.view.now).left (shown c.loop.view).left (shown c.next.new.self).left
          (λ x y z a b. subst (λ (l : List Found). TakesFront key old l x z) (sym c.in_ok-push-in-Some.ensures.items) (front_more key row old now x y z a b)) before.taken advanced.rows;
      still = call.fault.quiet (λ wrong. cc wrong) ∙ before.still;
      ages = ages_then (health c.args.view.now) (health c.loop.view) (health c.next.new.self) before.ages call.fault.ages;
      can_be_damaged = call.can_be_damaged ∙ before.can_be_damaged;
      loan = call.loan ∙ before.loan;
    }
