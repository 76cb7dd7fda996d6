use Rattle.influxql_parser.proofs.NumberLemmas.{counted-in}
use Rattle.influxql_parser.proofs.number.number_of.Goals as goal

pub returns : goal.returns
returns c = counted-in _ _ c.counted.ensures
