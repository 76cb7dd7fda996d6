use Rattle.std.proofs.Common.{◌^◌, ◌<◌, ◌≤◌, ◌+◌, drop, get_or, sum, ap, arith}
use Rattle.std.proofs.lemmas.List.{drop_more}
use Rattle.std.proofs.lemmas.List.Elements.{All-weaker}
use Rattle.std.proofs.lemmas.List.Sums.{sum_by-le}
use Rattle.time_codec.proofs.FollowingLemmas.{sum_cons}
use Rattle.time_codec.proofs.following.small_total.Goals as goal

pub overflow_add-total : goal.overflow_add-total
overflow_add-total c =
    let at = c.loop-step in
    let steps = c.args.steps.now in
    let most = sum_by-le (λ n. n) (2 ^ 54) steps (All-weaker (λ step. step < 2 ^ 54) (λ step. step ≤ 2 ^ 54) (λ step below. omega (arith, below)) steps c.requires.small) in
    omega (arith, at.invariant, ap sum (drop_more steps at.step-index 0 c.loop-step-test.true), sum_cons (get_or steps at.step-index 0) (drop (at.step-index + 1) steps), most, c.requires.few)
