-- The samples find the conflicts with the points.
use Rattle.std.proofs.Common.{◌∙◌, ap}
use Rattle.std.proofs.lemmas.Result.{IfOk-weaker}
use Rattle.point_model.specs.Acceptance.{conflict}
use Rattle.live_points.specs.Live.{Live}
use Rattle.live_points.proofs.ConflictLemmas.{conflict_found}
use Rattle.live_points.proofs.points.LivePoints.conflict.Goals as goal

pub returns : goal.returns
returns c =
    IfOk-weaker c.find_conflict.result _ _
    (λ found is.
    is ∙ conflict_found c.self.inside.cache.runs c.self.inside.keys c.self.inside.samples c.self.invariant.0 c.args.batch.now
    ∙ ap (λ (live : Live). conflict live.points c.args.batch.now) c.self.view_is)
    c.find_conflict.ensures
