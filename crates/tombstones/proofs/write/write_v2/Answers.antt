use Rattle.std.proofs.Common.{subst}
use Rattle.tombstones.specs.Covered.{AreFewest}
use Rattle.tombstones.proofs.FewestLemmas.{rows_fewest}
use Rattle.tombstones.proofs.write.write_v2.Goals as goal

pub returns-clause-fewest : goal.returns-clause-fewest
returns-clause-fewest c = subst AreFewest c.rows.ensures.all (rows_fewest c.rows.result.now.entries c.rows.ensures.rows.ascending c.in_ok-put_rows.ensures.apart)
