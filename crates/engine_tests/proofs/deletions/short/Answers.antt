-- A short name and no condition fit a record.
use Rattle.std.proofs.Common.{sym, subst, arith, rules}
use Rattle.point_model.specs.Conditions.{Condition}
use Rattle.point_model.specs.Deletions.{IsLoggable}
use Rattle.engine_tests.proofs.deletions.short.Goals as goal

pub returns : goal.returns
returns c =
    let fits = c.requires.short in
    subst (λ (tags : Condition). IsLoggable (record { measurement = c.args.measurement; tags = tags; from = c.at.result; to = c.at-2.result })) (sym c.requires.tags)
    (record { measurement = omega (arith, fits); texts = search rules; nested = omega arith; fits = omega (arith, fits) })
