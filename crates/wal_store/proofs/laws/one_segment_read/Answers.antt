use Rattle.wal_store.proofs.OnceLemmas.{never_wrong, one_segment, one_wrong}
use Rattle.wal_store.proofs.laws.one_segment_read.Goals as goal

pub returns-clause-one : goal.returns-clause-one
returns-clause-one c = one_segment

pub returns-clause-never_wrong : goal.returns-clause-never_wrong
returns-clause-never_wrong c = never_wrong

pub returns-clause-one_wrong : goal.returns-clause-one_wrong
returns-clause-one_wrong c = one_wrong
