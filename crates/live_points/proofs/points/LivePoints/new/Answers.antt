-- There are no points, and no batch is awaited.
use Rattle.std.proofs.Common.{ap}
use Rattle.point_model.proofs.StoredLemmas.{none_some}
use Rattle.point_cache.specs.Cached.{Cached}
use Rattle.live_points.proofs.EmptyLemmas.{nothing_holds}
use Rattle.live_points.proofs.points.LivePoints.new.Goals as goal

pub invariant_of-result : goal.invariant_of-result
invariant_of-result c = (
  nothing_holds c.new.result.runs c.new-2.result c.new-3.result (ap (λ (cached : Cached). cached.runs) c.new.ensures) c.new-2.ensures.empty c.new-3.ensures.empty,
  λ points is. absurd (none_some points is),
)
