use Rattle.shard_core.proofs.AcceptanceLemmas.{admitted, is_accepted, live_covered}
use Rattle.shard_core.proofs.laws.fields_give_contents.Goals as goal

pub returns : goal.returns
returns c = record { covered = live_covered; admits = admitted; accepted = is_accepted }
