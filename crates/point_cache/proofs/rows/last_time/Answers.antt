use Rattle.std.proofs.Common.{sym}
use Rattle.point_cache.proofs.OrderLemmas.{greatest}
use Rattle.point_cache.proofs.rows.last_time.Goals as goal

pub returns-in-Some-clause-some : goal.returns-in-Some-clause-some
returns-in-Some-clause-some c = greatest c.args.points.now c.in-Some.point.now (sym c.in-Some.ensures.value) c.requires
