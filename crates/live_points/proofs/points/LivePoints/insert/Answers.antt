-- The cache has the values that the batch sets, and all that the batch needs is known.
use Rattle.std.proofs.Common.{◌∙◌, ap, None}
use Rattle.point_model.specs.Acceptance.{conflict}
use Rattle.point_model.specs.Histories.{with_points}
use Rattle.point_model.proofs.StoredLemmas.{none_some}
use Rattle.live_points.specs.Live.{Live}
use Rattle.live_points.proofs.CommitLemmas.{committed, points_are}
use Rattle.live_points.proofs.points.LivePoints.insert.Goals as goal

pub invariant_of-self : goal.invariant_of-self
invariant_of-self c = (
  committed c.self.inside.cache.runs c.insert.new.self.runs c.self.inside.keys c.self.inside.samples c.args.batch.now c.self.invariant.0
      (c.self.invariant.1 c.args.batch.now (ap (λ (live : Live). live.room) c.self.view_is ∙ c.requires.room))
      (ap (λ (live : Live). conflict live.points c.args.batch.now) c.self.view_is ∙ c.requires.accepted)
      c.len.ensures.runs c.insert.ensures.values,
  λ points is. absurd (none_some points is),
)

pub returns : goal.returns
returns c =
    let are =
    points_are c.self.inside.cache.runs c.insert.new.self.runs c.self.inside.keys c.self.inside.samples c.args.batch.now c.self.invariant.0
    (c.self.invariant.1 c.args.batch.now (ap (λ (live : Live). live.room) c.self.view_is ∙ c.requires.room))
    (ap (λ (live : Live). conflict live.points c.args.batch.now) c.self.view_is ∙ c.requires.accepted)
    c.len.ensures.runs c.insert.ensures.values in
    let points = are ∙ ap (λ (live : Live). with_points live.points c.args.batch.now) c.self.view_is in
    λ i. record { points = points i; room = None }
