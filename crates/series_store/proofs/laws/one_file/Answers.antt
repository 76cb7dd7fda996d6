use Rattle.series_store.proofs.OnceLemmas.{one_file, never_wrong, one_wrong}
use Rattle.series_store.proofs.laws.one_file.Goals as goal

pub returns-clause-one : goal.returns-clause-one
returns-clause-one c = one_file

pub returns-clause-never_wrong : goal.returns-clause-never_wrong
returns-clause-never_wrong c = never_wrong

pub returns-clause-one_wrong : goal.returns-clause-one_wrong
returns-clause-one_wrong c = one_wrong
