use Rattle.std.proofs.Common.{arith}
use Rattle.point_cache.proofs.EntryLemmas.{among-at}
use Rattle.point_cache.proofs.places.follows.Goals as goal

pub returns-then-is_key_at-clause-touched : goal.returns-then-is_key_at-clause-touched
returns-then-is_key_at-clause-touched c = among-at c.args.touched.now c.args.at (omega arith)
