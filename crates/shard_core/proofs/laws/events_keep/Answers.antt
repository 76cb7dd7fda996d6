use Rattle.shard_core.proofs.WholeLemmas
use Rattle.shard_core.proofs.laws.events_keep.Goals as goal

pub returns : goal.returns
returns c = WholeLemmas.events_keep
