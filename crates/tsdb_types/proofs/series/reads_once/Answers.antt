use Rattle.tsdb_types.proofs.ReadingLemmas.{reads_once}
use Rattle.tsdb_types.proofs.series.reads_once.Goals as goal

pub returns : goal.returns
returns c = reads_once
