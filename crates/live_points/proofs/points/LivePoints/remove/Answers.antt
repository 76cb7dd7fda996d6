-- The cache has lost what the deletion takes away, and what is known beside it holds.
use Rattle.std.proofs.Common.{◌∙◌, ap, sym, subst, None}
use Rattle.point_model.specs.Deletions.{without}
use Rattle.point_model.proofs.StoredLemmas.{none_some}
use Rattle.live_points.specs.Live.{Live}
use Rattle.live_points.specs.Removed.{IsRemovalOf}
use Rattle.live_points.proofs.RemovalLemmas.{points_are, removed}
use Rattle.live_points.proofs.points.LivePoints.remove.Goals as goal

pub invariant_of-self : goal.invariant_of-self
invariant_of-self c = (
  removed c.self.inside.cache.runs c.take_away.new.cache.runs c.self.inside.keys c.take_away.new.known c.self.inside.samples c.take_away.new.samples c.args.deletion.now c.args.removal
      c.self.invariant.0
      (subst (λ (live : Live). IsRemovalOf c.args.deletion.now live.points c.args.removal) (sym c.self.view_is) c.requires)
      c.len.ensures.runs c.take_away.ensures.values c.take_away.ensures.known c.take_away.ensures.samples,
  λ points is. absurd (none_some points is),
)

pub returns : goal.returns
returns c =
    let are =
    points_are c.self.inside.cache.runs c.take_away.new.cache.runs c.self.inside.keys c.take_away.new.known c.self.inside.samples c.take_away.new.samples c.args.deletion.now c.args.removal
    c.self.invariant.0
    (subst (λ (live : Live). IsRemovalOf c.args.deletion.now live.points c.args.removal) (sym c.self.view_is) c.requires)
    c.len.ensures.runs c.take_away.ensures.values c.take_away.ensures.known c.take_away.ensures.samples in
    let points = are ∙ ap (λ (live : Live). without live.points c.args.deletion.now) c.self.view_is in
    λ i. record { points = points i; room = None }
