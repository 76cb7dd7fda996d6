use Rattle.std.proofs.Common.{ℕ, ◌≡◌, ◌<◌, ◌*◌, ◌∙◌, sum, replicate, sym, subst, arith}
use Rattle.std.specs.Prelude.{pos, ◌+ℤ◌}
use Rattle.std.proofs.lemmas.Bool.{false≢true}
use Rattle.std.proofs.lemmas.List.{get_or-replicate, length-replicate}
use Rattle.std.proofs.lemmas.List.Elements.{All-replicate}
use Rattle.tsdb_types.specs.Moments.{IsMoment}
use Rattle.time_codec.proofs.FollowingLemmas.{lead_from, lead_last, lead_positive, lead_small, sum-replicate}
use Rattle.time_codec.proofs.following.lead_evenly.Goals as goal

pub returns-then-step-eq0 : goal.returns-then-step-eq0
returns-then-step-eq0 c = (
  λ is. absurd (false≢true is),
  λ lead.
      let positive = lead_positive c.args.first c.args.unit (replicate c.args.later c.args.step) lead 0 0 (omega (arith, length-replicate {A = ℕ} c.args.later c.args.step)) in
      absurd (omega (arith, positive, get_or-replicate c.args.later 0 c.args.step 0 c.requires.more)),
)

pub returns-in_default : goal.returns-in_default
returns-in_default c =
    let first = c.args.first in
    let unit = c.args.unit in
    let steps = replicate c.args.later c.args.step in (
      λ is. absurd (false≢true is),
      λ lead. absurd (omega (arith, c.in_default.ensures, sum-replicate c.args.later c.args.step, lead_small first unit (sum steps) c.requires.moment c.requires.some (lead_last first unit steps c.requires.moment lead))),
    )

pub returns : goal.returns
returns c =
    let first = c.args.first in
    let unit = c.args.unit in
    let steps = replicate c.args.later c.args.step in
    let total : c.in-Some.total ≡ sum steps = c.in-Some.ensures.1 ∙ sym (sum-replicate c.args.later c.args.step) in
    let positive = All-replicate (λ step. 0 < step) c.args.later c.args.step (omega arith) in (
      λ is. lead_from first unit steps c.requires.moment c.requires.some positive (subst (λ (n : ℕ). IsMoment (first +ℤ pos (n * unit))) total (c.is_moment_behind.ensures.0 is)),
      λ lead. c.is_moment_behind.ensures.1 (subst (λ (n : ℕ). IsMoment (first +ℤ pos (n * unit))) (sym total) (lead_last first unit steps c.requires.moment lead)),
    )
