use Rattle.std.proofs.Common.{List, sym, subst}
use Rattle.tombstones.specs.Ranges.{Covers}
use Rattle.tombstones.specs.Covered.{Tomb, Hides}
use Rattle.tombstones.proofs.KeptLemmas.{found, absent}
use Rattle.tombstones.proofs.set.TombSet.ranges.Goals as goal

pub returns-in-Some-clause-covered : goal.returns-in-Some-clause-covered
returns-in-Some-clause-covered c =
    let rows = c.self.inside.rows.entries in
    let at = found c.args.key.now rows c.in-Some.ranges.now c.self.invariant.ascending (sym c.in-Some.ensures.value) in
    λ t. (
      λ h. subst (λ (ts : List Tomb). Hides ts c.args.key.now t) c.self.view_is ((at t).0 (subst (λ rs. Covers rs t) c.as_slice.ensures.all h)),
      λ h. subst (λ rs. Covers rs t) (sym c.as_slice.ensures.all) ((at t).1 (subst (λ (ts : List Tomb). Hides ts c.args.key.now t) (sym c.self.view_is) h)),
    )

pub returns-in-None-clause-covered : goal.returns-in-None-clause-covered
returns-in-None-clause-covered c =
    λ t. (λ h. absurd h, λ h. absent c.args.key.now c.self.inside.rows.entries t (sym c.in-None.ensures.value) (subst (λ (ts : List Tomb). Hides ts c.args.key.now t) (sym c.self.view_is) h))
