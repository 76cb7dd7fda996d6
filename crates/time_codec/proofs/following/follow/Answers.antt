use Rattle.std.proofs.Common.{◌+◌, ◌*◌, ◌∷◌, ◌++◌, length, map, get_or, sym, subst, ap, ◌∙◌, arith, rules}
use Rattle.std.specs.Prelude.{ℤ, pos, ◌+ℤ◌}
use Rattle.std.proofs.lemmas.List.{append-nil}
use Rattle.tsdb_types.specs.Moments.{IsMoment}
use Rattle.time_codec.specs.Reading.{Lead, times_behind}
use Rattle.time_codec.proofs.FollowingLemmas.{gap_fits, gaps_more, gaps_none, none_behind, lead_more, pushed_more}
use Rattle.time_codec.proofs.following.follow.Goals as goal

pub overflow_mul-total : goal.overflow_mul-total
overflow_mul-total c =
    let at = c.loop-step in
    let first = c.args.first in
    let gap = get_or c.args.steps.now at.step-index 0 * c.args.unit in
    let moment : IsMoment first = search rules in
    let next = lead_more first at.total gap _ _ (gaps_more c.args.unit c.args.steps.now at.step-index c.loop-step-test.true) at.invariant.on in
    omega (arith, gap_fits first (at.total + gap) moment next.0)

pub overflow_add-total : goal.overflow_add-total
overflow_add-total c =
    let at = c.loop-step in
    let first = c.args.first in
    let gap = get_or c.args.steps.now at.step-index 0 * c.args.unit in
    let moment : IsMoment first = search rules in
    let next = lead_more first at.total gap _ _ (gaps_more c.args.unit c.args.steps.now at.step-index c.loop-step-test.true) at.invariant.on in
    omega (arith, gap_fits first (at.total + gap) moment next.0)

pub moved-requires : goal.moved-requires
moved-requires c =
    let at = c.loop-step in
    let gap = get_or c.args.steps.now at.step-index 0 * c.args.unit in
    let next = lead_more c.args.first at.total gap _ _ (gaps_more c.args.unit c.args.steps.now at.step-index c.loop-step-test.true) at.invariant.on in
    next.0

pub push_reserved-requires : goal.push_reserved-requires
push_reserved-requires c = omega (arith, c.loop-step.invariant.len, c.loop-step.invariant.room, c.loop-step-test.true)

pub loop-step-init : goal.loop-step-init
loop-step-init c =
    let first = c.args.first in
    let gaps = map (λ step. step * c.args.unit) c.args.steps.now in
    let moment : IsMoment first = search rules in
    let none = sym (none_behind first) in
    record {
      len = c.args.times.now.ok.0 ∙ ap length c.requires.begun;
      room = c.requires.room;
      moment = subst IsMoment none moment;
      on = subst (λ (t : ℤ). Lead t gaps) none c.requires.on;
      done = ap (λ ts. ts ++ times_behind (first +ℤ pos 0) gaps) c.requires.begun ∙ ap (λ (t : ℤ). first ∷ times_behind t gaps) (sym none);
    }

pub loop-step-preserved : goal.loop-step-preserved
loop-step-preserved c =
    let at = c.loop-step in
    let first = c.args.first in
    let gap = get_or c.args.steps.now at.step-index 0 * c.args.unit in
    let gaps = gaps_more c.args.unit c.args.steps.now at.step-index c.loop-step-test.true in
    let next = lead_more first at.total gap _ _ gaps at.invariant.on in
    record {
      len = omega (arith, c.push_reserved.ensures.len, at.invariant.len);
      room = c.push_reserved.ensures.capacity ∙ at.invariant.room;
      moment = next.0;
      on = next.1;
      done = pushed_more at.times.items c.push_reserved.new.self.items _ first c.moved.result at.total gap _ _ c.push_reserved.ensures.items gaps c.moved.ensures at.invariant.done;
    }

pub returns : goal.returns
returns c =
    let at = c.loop-step in
    let steps = c.args.steps.now in
    sym (append-nil at.times.items)
    ∙ ap (λ gs. at.times.items ++ times_behind (c.args.first +ℤ pos at.total) gs) (sym (gaps_none c.args.unit steps at.step-index c.loop-step-test.false))
    ∙ at.invariant.done
