use Rattle.shard_recover.proofs.DamageLemmas as damage
use Rattle.shard_recover.proofs.StandingLemmas as standing
use Rattle.shard_recover.proofs.laws.one_damage.Goals as goal

pub returns-clause-one : goal.returns-clause-one
returns-clause-one c = damage.one_damage

pub returns-clause-none : goal.returns-clause-none
returns-clause-none c = standing.undamaged

pub returns-clause-one_state : goal.returns-clause-one_state
returns-clause-one_state c = standing.one_state
