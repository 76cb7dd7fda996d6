use Rattle.point_view.proofs.LayerLemmas.{frozen_are}
use Rattle.point_view.proofs.memory.look_at.Goals as goal

pub returns-clause-frozen : goal.returns-clause-frozen
returns-clause-frozen c = frozen_are _ c.snapshot.result c.args.cache.now.snapshot c.snapshot.ensures.snapshot c.snapshot.ensures.each
