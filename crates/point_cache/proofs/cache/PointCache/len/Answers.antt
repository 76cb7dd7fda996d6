use Rattle.std.proofs.Common.{subst}
use Rattle.point_cache.specs.Cached.{Cached, AreRuns}
use Rattle.point_cache.specs.Staged.{lives}
use Rattle.point_cache.proofs.StateLemmas.{apart_lives, apart_front}
use Rattle.point_cache.proofs.cache.PointCache.len.Goals as goal

pub returns-clause-runs : goal.returns-clause-runs
returns-clause-runs c =
    let es = c.self.inside.runs.entries in
    subst (λ (v : Cached). AreRuns v.runs) c.self.view_is (record { each = c.self.invariant.each; apart = apart_front (lives es) c.self.inside.keys (apart_lives es c.len.ensures.apart) })
