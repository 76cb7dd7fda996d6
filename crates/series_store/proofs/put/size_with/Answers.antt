use Rattle.std.proofs.Common.{length, ap, arith}
use Rattle.series_store.proofs.FormatLemmas.{length-series_bytes}
use Rattle.series_store.proofs.put.size_with.Goals as goal

pub returns-clause-size : goal.returns-clause-size
returns-clause-size c = omega (arith, length-series_bytes c.args.key.now, ap length c.text.ensures.text)
