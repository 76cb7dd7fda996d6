use Rattle.std.proofs.Common.{refl, ℕ, ◌*◌, sum, sym, subst, arith}
use Rattle.std.specs.Prelude.{pos, ◌+ℤ◌}
use Rattle.std.proofs.lemmas.Bool.{false≢true}
use Rattle.tsdb_types.specs.Moments.{IsMoment}
use Rattle.time_codec.proofs.FollowingLemmas.{lead_from, lead_last, lead_positive, lead_small}
use Rattle.time_codec.proofs.following.lead_on.Goals as goal

pub returns-in_default : goal.returns-in_default
returns-in_default c =
    let first = c.args.first in
    let unit = c.args.unit in
    let steps = c.args.steps.now in (
      λ is. absurd (false≢true is),
      λ lead. absurd (omega (arith, c.in_default.ensures.none refl (lead_positive first unit steps lead), lead_small first unit (sum steps) c.requires.moment c.requires.some (lead_last first unit steps c.requires.moment lead))),
    )

pub returns : goal.returns
returns c =
    let first = c.args.first in
    let unit = c.args.unit in
    let steps = c.args.steps.now in
    let found = c.in-Some.ensures.found in (
      λ is. lead_from first unit steps c.requires.moment c.requires.some found.1 (subst (λ (n : ℕ). IsMoment (first +ℤ pos (n * unit))) found.0 (c.is_moment_behind.ensures.0 is)),
      λ lead. c.is_moment_behind.ensures.1 (subst (λ (n : ℕ). IsMoment (first +ℤ pos (n * unit))) (sym found.0) (lead_last first unit steps c.requires.moment lead)),
    )
