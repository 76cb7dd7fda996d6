use Rattle.std.proofs.Common.{rules}
use Rattle.series_store.proofs.FormatLemmas.{few}
use Rattle.series_store.proofs.put.record_of.Goals as goal

pub overflow_cast-series : goal.overflow_cast-series
overflow_cast-series c = search (rules, few c.args.series.now c.requires.short)
