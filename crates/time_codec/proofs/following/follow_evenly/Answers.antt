use Rattle.std.proofs.Common.{◌+◌, ◌-◌, ◌++◌, ◌<◌, ℕ, length, take, replicate, ap, sym, subst, ◌∙◌, arith}
use Rattle.std.proofs.Math.ListN.{set}
use Rattle.std.proofs.lemmas.List.{length-set}
use Rattle.time_codec.specs.Reading.{Lead, times_behind}
use Rattle.time_codec.proofs.FollowingLemmas.{even_more, even_none, one_behind, lead_next, all_behind}
use Rattle.time_codec.proofs.following.follow_evenly.Goals as goal

pub moved-last-requires : goal.moved-last-requires
moved-last-requires c =
    let at = c.loop-k in
    let below : at.k < length at.times = omega (arith, at.invariant.size, c.loop-k-test.true) in
    let lead = subst (Lead at.last) (even_more (length at.times) at.k c.args.distance below) at.invariant.on in
    lead.1

pub loop-k-preserved : goal.loop-k-preserved
loop-k-preserved c =
    let at = c.loop-k in
    let below : at.k < length at.times = omega (arith, at.invariant.size, c.loop-k-test.true) in
    let gaps = even_more (length at.times) at.k c.args.distance below in
    let next = lead_next at.last c.moved-last.result _ _ _ gaps c.moved-last.ensures at.invariant.on in
    let size = length-set at.times at.k c.moved-last.result in
    record {
      size = size ∙ at.invariant.size;
      moment = next.0;
      on = subst (λ (n : ℕ). Lead c.moved-last.result (replicate (n - (at.k + 1)) c.args.distance)) (sym size) next.1;
      done = ap (λ (n : ℕ). take (at.k + 1) (set at.times at.k c.moved-last.result) ++ times_behind c.moved-last.result (replicate (n - (at.k + 1)) c.args.distance)) size
          ∙ one_behind at.times _ at.last c.moved-last.result _ at.k _ _ below gaps c.moved-last.ensures at.invariant.done;
    }

pub returns : goal.returns
returns c =
    let at = c.loop-k in
    all_behind at.times _ at.last at.k _ (omega (arith, at.invariant.size, c.loop-k-test.false)) (even_none (length at.times) at.k c.args.distance (omega (arith, at.invariant.size, c.loop-k-test.false))) at.invariant.done
