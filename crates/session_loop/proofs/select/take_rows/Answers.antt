-- One key after another.
use Rattle.std.proofs.Common.{◌∙◌, ◌<◌, ◌≤◌, length, subst, List}
use Rattle.shard_disk.proofs.HealthLemmas.{ages_then}
use Rattle.point_model.specs.Cursors.{Key}
use Rattle.session_loop.specs.Merged.{TakesField}
use Rattle.session_loop.proofs.TakingLemmas.{told_next, field_taken, all_taken}
use Rattle.session_loop.proofs.select.take_rows.Goals as goal

pub loop-key-preserved : goal.loop-key-preserved
loop-key-preserved g c =
    let shown = g.V.PointCursor.shown in
    let health = g.V.PointCursor.health in
    let before = c.loop-key.invariant in
    let call = c.in_ok-take_of.ensures in
    let keys = (shown c.args.view.now).keys in
    let field = c.args.field.now in
    let key = c.loop-key.key in
    let found = c.loop-key.found.items in
    let now = c.take_of.new.found.items in
    let within : key < length keys = subst (λ (l : List Key). key < length l) c.keys-key-end.ensures c.loop-key-test.true in
    record {
      usable = call.usable;
      keys = call.keys ∙ before.keys;
      to_take = λ left tells.
          let to_take = before.to_take left tells in
          let next = told_next (TakesField field (shown c.loop-key.view).keys key found now) (shown c.loop-key.view).left (shown c.take_of.new.view).left to_take.0 to_take.1 call.ok in (
            next.0,
            next.1,
            field_taken field keys c.args.found.now.items found now left to_take.0 next.0 key within to_take.2
                (subst (λ (l : List Key). TakesField field l key found now to_take.0 next.0) before.keys next.2),
          );
      still = call.fault.quiet (λ wrong. cc wrong) ∙ before.still;
      ages = ages_then (health c.args.view.now) (health c.loop-key.view) (health c.take_of.new.view) before.ages call.fault.ages;
      can_be_damaged = call.can_be_damaged ∙ before.can_be_damaged;
      loan = call.loan ∙ before.loan;
    }

pub returns-clause-ok : goal.returns-clause-ok
returns-clause-ok g c = λ left tells.
    let keys = (g.V.PointCursor.shown c.args.view.now).keys in
    let t = c.loop-key.invariant.to_take left tells in
    let past : length keys ≤ c.loop-key.key = subst (λ (l : List Key). length l ≤ c.loop-key.key) c.keys-key-end.ensures c.loop-key-test.false in
    all_taken c.args.field.now keys c.args.found.now.items c.loop-key.found.items left t.0 c.loop-key.key past t.2
