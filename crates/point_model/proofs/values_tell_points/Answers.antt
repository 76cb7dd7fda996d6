use Rattle.point_model.proofs.CellKeyLemmas.{values_tell}
use Rattle.point_model.proofs.StoredLemmas.{no_values}
use Rattle.point_model.proofs.values_tell_points.Goals as goal

pub returns-clause-none : goal.returns-clause-none
returns-clause-none c = no_values

pub returns-clause-same : goal.returns-clause-same
returns-clause-same c = values_tell
