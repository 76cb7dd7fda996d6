use Rattle.influxql_parser.proofs.DeletionLemmas.{one-reading}
use Rattle.influxql_parser.proofs.deletion.one_deletion.Goals as goal

pub returns : goal.returns
returns c = one-reading
