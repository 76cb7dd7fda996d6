use Rattle.std.proofs.Common.{◌∙◌}
use Rattle.std.proofs.lemmas.Result.{IfOk-weaker}
use Rattle.point_cache.proofs.OrderLemmas.{slice_is}
use Rattle.point_cache.proofs.rows.copy_within.Goals as goal

pub returns : goal.returns
returns c =
    IfOk-weaker c.from_slice.result _ _
    (λ copy is. is ∙ slice_is c.args.points.now c.range-first.result.0 c.range-first.result.1 c.range-first.ensures.order ∙ c.range-first.ensures.within)
    c.from_slice.ensures.items
