use Rattle.point_model.proofs.StoredLemmas.{entries_keep}
use Rattle.point_model.proofs.entries_keep_stored.Goals as goal

pub returns : goal.returns
returns c = entries_keep
