use Rattle.std.proofs.Common.{List, length, ap, ◌∙◌}
use Rattle.point_model.specs.Rows.{Row}
use Rattle.point_cache.specs.Sorted.{first_at}
use Rattle.point_cache.proofs.MergeLemmas.{ordered_firsts}
use Rattle.point_cache.proofs.merging.order.Goals as goal

pub returns : goal.returns
returns c =
    let sorted = c.as_slice.result.now in
    ordered_firsts c.args.points.now _ sorted _ c.clear.ensures.items c.in_ok-append_firsts.ensures.ok
    (λ t. ap (λ (l : List Row). first_at l t) c.as_slice.ensures.value ∙ c.in_ok-gather.ensures.firsts t)
    (ap length c.as_slice.ensures.value ∙ c.in_ok-gather.ensures.len)
