use Rattle.point_cache.proofs.ResultLemmas.{on_err}
use Rattle.point_cache.proofs.freezing.freeze.Goals as goal

pub returns-in_err-fill-clause-err : goal.returns-in_err-fill-clause-err
returns-in_err-fill-clause-err c = on_err c.from_residual-in_err-fill.result c.in_err-fill.ensures.err
