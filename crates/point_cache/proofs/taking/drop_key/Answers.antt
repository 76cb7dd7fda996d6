use Rattle.std.proofs.Common.{arith}
use Rattle.point_cache.proofs.EntryLemmas.{keys_apart}
use Rattle.point_cache.proofs.TakeLemmas.{drops_one, if_some}
use Rattle.point_cache.proofs.taking.drop_key.Goals as goal

pub returns : goal.returns
returns c =
    drops_one c.args.map.now.entries c.swap_remove_index.new.self.entries c.args.place c.swap_remove_index.result (omega arith) c.swap_remove_index.ensures.entry c.swap_remove_index.ensures.entries
    (if_some _ _ c.swap_remove_index.result (λ slot u. u.0) c.swap_remove_index.ensures.updates)
    (keys_apart c.args.map.now.entries c.len.ensures.unique) c.requires
