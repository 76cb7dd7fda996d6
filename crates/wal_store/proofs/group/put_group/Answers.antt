use Rattle.std.proofs.Common.{length, ap, arith}
use Rattle.wal_store.proofs.GroupLemmas.{series_short}
use Rattle.wal_store.proofs.group.put_group.Goals as goal

pub put_text-requires : goal.put_text-requires
put_text-requires c = omega (arith, ap length c.text.ensures.text, series_short c.args.series.now c.args.points.now c.requires.some c.requires.same c.requires.short)
