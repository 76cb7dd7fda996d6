-- The new series may be added.
use Rattle.std.proofs.Common.{List, ℕ, arith, subst, sym}
use Rattle.series_store.specs.Lists.{MayAdd}
use Rattle.shard_steps.proofs.RoomLemmas.{may_add}
use Rattle.shard_steps.proofs.shard.Shard.prepare.Goals as goal

pub prepare-requires-clause-may : goal.prepare-requires-clause-may
prepare-requires-clause-may g c =
    let allowed = c.requires.allowed in
    let few = c.args.self.now.settings.few_series in
    subst (λ (l : List (List ℕ)). MayAdd c.args.self.now.logs.series.keys l) (sym c.as_slice.ensures.keys)
    (may_add c.args.self.now.logs.series.keys c.args.batch.now c.args.new.now.keys c.requires.writable allowed.unheld (omega (arith, allowed.fits, few)))
