use Rattle.std.proofs.Common.{sym, ap, ◌∙◌}
use Rattle.point_cache.specs.Cached.{Cached, count}
use Rattle.point_cache.specs.Staged.{lives}
use Rattle.point_cache.proofs.PlainLemmas.{count_front, count_lives}
use Rattle.point_cache.proofs.cache.PointCache.points.Goals as goal

pub returns : goal.returns
returns c =
    let es = c.self.inside.runs.entries in
    c.points.ensures ∙ sym (count_lives es) ∙ sym (count_front (lives es) c.self.inside.keys c.self.invariant.empty) ∙ ap (λ (v : Cached). count v.runs) c.self.view_is
