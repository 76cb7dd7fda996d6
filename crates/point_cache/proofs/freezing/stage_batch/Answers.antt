use Rattle.std.proofs.Common.{◌∙◌}
use Rattle.std.proofs.lemmas.Result.{on_ok_weaker}
use Rattle.point_cache.proofs.CacheLemmas.{has_room}
use Rattle.point_cache.proofs.freezing.stage_batch.Goals as goal

pub returns-clause-ok : goal.returns-clause-ok
returns-clause-ok c =
    on_ok_weaker c.settle.result
    (λ settled. has_room c.args.points.now c.args.runs.now.entries c.stage.new.self.entries c.settle.new.self.entries c.requires.plain c.requires.each c.stage.ensures.grows c.in_ok-stage.ensures.ok c.settle.ensures.settles settled)
    c.settle.ensures.ok

pub returns-clause-grows : goal.returns-clause-grows
returns-clause-grows c = record { more = c.stage.ensures.grows.more; lives = c.settle.ensures.settles.lives ∙ c.stage.ensures.grows.lives; empty = c.stage.ensures.grows.empty }
