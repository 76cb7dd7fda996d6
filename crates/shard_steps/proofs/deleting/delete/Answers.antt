-- What the parts of a deletion say of the whole.
use Rattle.std.proofs.Common.{arith}
use Rattle.std.proofs.lemmas.Result.{err_from_is_err_and}
use Rattle.store_trait.specs.declared.fault.DeleteFault.TheVariants.{HistoryFull}
use Rattle.shard_steps.proofs.DeletionLemmas.{rests, still}
use Rattle.shard_steps.proofs.deleting.delete.Goals as goal

pub returns-then-number-ge-LAST_NUMBER-clause-kept : goal.returns-then-number-ge-LAST_NUMBER-clause-kept
returns-then-number-ge-LAST_NUMBER-clause-kept g c = rests g.D.Disk c.args.shard.now

pub returns-then-number-ge-LAST_NUMBER-clause-refused : goal.returns-then-number-ge-LAST_NUMBER-clause-refused
returns-then-number-ge-LAST_NUMBER-clause-refused g c = omega (arith, c.if-number-ge-LAST_NUMBER.true, c.number.ensures, c.requires.ready.logs.limit)

pub returns-then-number-ge-LAST_NUMBER-clause-goes_on : goal.returns-then-number-ge-LAST_NUMBER-clause-goes_on
returns-then-number-ge-LAST_NUMBER-clause-goes_on g c = still g.D.Disk c.args.client c.args.deletion.now c.args.shard.now HistoryFull

pub returns-in_err-removal-clause-kept : goal.returns-in_err-removal-clause-kept
returns-in_err-removal-clause-kept g c = rests g.D.Disk c.args.shard.now

pub returns-in_err-removal-clause-goes_on : goal.returns-in_err-removal-clause-goes_on
returns-in_err-removal-clause-goes_on g c =
    let p = err_from_is_err_and c.from_residual.result c.from_residual.ensures.1 in rw p.1 (still g.D.Disk c.args.client c.args.deletion.now c.args.shard.now p.0)

pub returns-in_err-prepared-clause-kept : goal.returns-in_err-prepared-clause-kept
returns-in_err-prepared-clause-kept g c = rests g.D.Disk c.args.shard.now

pub returns-in_err-prepared-clause-goes_on : goal.returns-in_err-prepared-clause-goes_on
returns-in_err-prepared-clause-goes_on g c =
    let p = err_from_is_err_and c.from_residual-in_err-prepared.result c.from_residual-in_err-prepared.ensures.1 in
    rw p.1 (still g.D.Disk c.args.client c.args.deletion.now c.args.shard.now p.0)
