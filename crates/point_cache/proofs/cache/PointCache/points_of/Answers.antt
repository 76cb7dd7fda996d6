use Rattle.std.proofs.Common.{List, ap, ◌∙◌}
use Rattle.std.proofs.lemmas.Result.{IfOk-weaker}
use Rattle.point_model.specs.Rows.{Row}
use Rattle.point_cache.specs.Cached.{rows_within}
use Rattle.point_cache.proofs.cache.PointCache.points_of.Goals as goal

pub returns : goal.returns
returns c =
    IfOk-weaker c.copy_within.result _ _ (λ copy is. is ∙ ap (λ (rows : List Row). rows_within c.args.from c.args.to rows) c.rows_of.ensures.points) c.copy_within.ensures
