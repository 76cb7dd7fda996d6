use Rattle.std.proofs.Common.{◌+◌, drop, get_or, sum, ap, arith}
use Rattle.std.proofs.lemmas.List.{drop_more, drop_all, get_or_default}
use Rattle.time_codec.proofs.FollowingLemmas.{sum_cons}
use Rattle.time_codec.proofs.following.wide_total.Goals as goal

pub returns-in_err-total-clause-none : goal.returns-in_err-total-clause-none
returns-in_err-total-clause-none c = λ none all.
    let at = c.loop-step in
    let steps = c.args.steps.now in
    omega (arith, at.invariant.total, ap sum (drop_more steps at.step-index 0 c.loop-step-test.true), sum_cons (get_or steps at.step-index 0) (drop (at.step-index + 1) steps), c.in_err-total.ensures)

pub returns-clause-found : goal.returns-clause-found
returns-clause-found c =
    let at = c.loop-step in
    let steps = c.args.steps.now in (
      omega (arith, at.invariant.total, ap sum (drop_all at.step-index steps c.loop-step-test.false)),
      λ k d below. omega (arith, at.invariant.positive k (omega arith), get_or_default steps k 0 d below),
    )
