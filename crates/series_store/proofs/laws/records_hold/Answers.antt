use Rattle.std.proofs.Common.{[]}
use Rattle.series_store.proofs.HoldLemmas.{hold_fit, one_record_more}
use Rattle.series_store.proofs.OnceLemmas.{records_file}
use Rattle.series_store.proofs.laws.records_hold.Goals as goal

pub returns-clause-file : goal.returns-clause-file
returns-clause-file c = records_file

pub returns-clause-more : goal.returns-clause-more
returns-clause-more c = one_record_more

pub returns-clause-fit : goal.returns-clause-fit
returns-clause-fit c = λ records series hold. hold_fit records [] series hold
