use Rattle.point_model.proofs.StoredLemmas.{by_values}
use Rattle.point_model.proofs.accepted_by_values.Goals as goal

pub returns : goal.returns
returns c = by_values
