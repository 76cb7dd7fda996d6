use Rattle.influxql_parser.proofs.DeletionLemmas.{no-show}
use Rattle.influxql_parser.proofs.deletion.no_show_is_deletion.Goals as goal

pub returns : goal.returns
returns c = no-show
