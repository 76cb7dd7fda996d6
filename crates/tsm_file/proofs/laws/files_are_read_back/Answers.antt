use Rattle.std.proofs.Common.{refl}
use Rattle.tsm_file.proofs.ReadBack.{has_index, key_has, others_have_none}
use Rattle.tsm_file.proofs.laws.files_are_read_back.Goals as goal

pub returns-clause-index : goal.returns-clause-index
returns-clause-index c = λ bytes keys file is. (refl, has_index bytes keys is)

pub returns-clause-points : goal.returns-clause-points
returns-clause-points c = key_has

pub returns-clause-no_others : goal.returns-clause-no_others
returns-clause-no_others c = λ bytes keys key is lacks. others_have_none bytes keys key lacks
