use Rattle.influxql_parser.proofs.DeletionLemmas.{reads-begin}
use Rattle.influxql_parser.proofs.deletion.deletions_begin.Goals as goal

pub returns : goal.returns
returns c = reads-begin
