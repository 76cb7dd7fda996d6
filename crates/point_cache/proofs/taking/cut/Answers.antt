use Rattle.std.proofs.Common.{length, not, ap, ◌∙◌, arith}
use Rattle.point_model.specs.Rows.{Row}
use Rattle.point_cache.specs.Cached.{is_within}
use Rattle.point_cache.proofs.TakeLemmas.{shorter}
use Rattle.point_cache.proofs.taking.cut.Goals as goal

pub overflow_sub-result : goal.overflow_sub-result
overflow_sub-result c =
    let less = shorter (λ (r : Row). not (is_within c.args.from c.args.to r.0)) c.args.run.now.live in
    let before = ap length c.points-before.ensures.live in
    let left = ap length (c.points-left.ensures.live ∙ c.remove.ensures.live) in
    omega (arith, less, before, left)

pub returns-clause-counted : goal.returns-clause-counted
returns-clause-counted c =
    let less = shorter (λ (r : Row). not (is_within c.args.from c.args.to r.0)) c.args.run.now.live in
    let before = ap length c.points-before.ensures.live in
    let left = ap length (c.points-left.ensures.live ∙ c.remove.ensures.live) in
    let now = ap length c.remove.ensures.live in
    omega (arith, less, before, left, now)
