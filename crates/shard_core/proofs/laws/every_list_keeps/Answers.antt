use Rattle.shard_core.proofs.WholeLemmas
use Rattle.shard_core.proofs.laws.every_list_keeps.Goals as goal

pub returns : goal.returns
returns c = WholeLemmas.every_list_keeps
