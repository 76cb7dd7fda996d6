use Rattle.tombstones.proofs.FewestLemmas.{same_list}
use Rattle.tombstones.proofs.laws.one_form.Goals as goal

pub returns : goal.returns
returns c = same_list
