use Rattle.point_model.proofs.CellKeyLemmas.{keys_tell}
use Rattle.point_model.proofs.keys_tell_cells.Goals as goal

pub returns : goal.returns
returns c = keys_tell
