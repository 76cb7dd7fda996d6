use Rattle.wal_store.proofs.ReplayLemmas.{are_more}
use Rattle.wal_store.proofs.SegmentLemmas.{is_segment, records_fit}
use Rattle.wal_store.proofs.laws.records_hold.Goals as goal

pub returns-clause-segment : goal.returns-clause-segment
returns-clause-segment c = is_segment

pub returns-clause-fit : goal.returns-clause-fit
returns-clause-fit c = records_fit

pub returns-clause-more : goal.returns-clause-more
returns-clause-more c = are_more
