use Rattle.std.proofs.Common.{sym, ap, ◌∙◌}
use Rattle.point_cache.specs.Cached.{Cached, points_at}
use Rattle.point_cache.specs.Staged.{lives}
use Rattle.point_cache.proofs.PlainLemmas.{points_front, points_lives}
use Rattle.point_cache.proofs.cache.PointCache.rows_of.Goals as goal

pub returns-clause-points : goal.returns-clause-points
returns-clause-points c =
    let es = c.self.inside.runs.entries in
    let key = c.args.key.now in
    c.rows_of.ensures.live ∙ sym (points_lives es key) ∙ sym (points_front (lives es) c.self.inside.keys key c.self.invariant.empty) ∙ ap (λ (v : Cached). points_at v.runs key) c.self.view_is
