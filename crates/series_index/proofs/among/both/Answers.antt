use Rattle.series_index.proofs.FilterLemmas.{both_of, both_turned}
use Rattle.series_index.proofs.among.both.Goals as goal

pub returns-then-first-second : goal.returns-then-first-second
returns-then-first-second c = both_of c.among.result c.args.first.now c.args.second.now c.among.ensures

pub returns-else-first-second : goal.returns-else-first-second
returns-else-first-second c = both_turned c.among-else-first-second.result c.args.first.now c.args.second.now c.among-else-first-second.ensures
