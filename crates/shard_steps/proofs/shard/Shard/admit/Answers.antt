-- No conflict was found, and the limits were looked at.
use Rattle.std.proofs.Common.{arith}
use Rattle.std.proofs.lemmas.Result.{err_from_is_err_and}
use Rattle.store_trait.specs.Plain.{conflict_of}
use Rattle.point_model.specs.Acceptance.{conflict}
use Rattle.shard_steps.proofs.ResultLemmas.{none_found}
use Rattle.shard_steps.proofs.shard.Shard.admit.Goals as goal

pub returns-then-number-ge-LAST_NUMBER-clause-refused : goal.returns-then-number-ge-LAST_NUMBER-clause-refused
returns-then-number-ge-LAST_NUMBER-clause-refused g c = λ old new. (
  none_found conflict_of c.in_ok-field.field-0 (conflict c.args.self.now.live.points c.args.batch.now) c.in_default.not-Some c.in_ok-field.ensures,
  omega (arith, c.if-number-ge-LAST_NUMBER.true, c.number-2.ensures, c.requires),
)

pub returns-in_err-fits-clause-refused : goal.returns-in_err-fits-clause-refused
returns-in_err-fits-clause-refused g c = λ old new.
    let p = err_from_is_err_and c.from_residual-in_err-fits.result c.from_residual-in_err-fits.ensures.1 in rw (p.1, p.2) (c.in_err-fits.ensures.refused old new)
