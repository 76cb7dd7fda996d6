use Rattle.tombstones.proofs.HidingLemmas.{hiding_is_tested}
use Rattle.tombstones.proofs.laws.hiding_is_tested.Goals as goal

pub returns : goal.returns
returns c = hiding_is_tested
