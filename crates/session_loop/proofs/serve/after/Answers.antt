-- The number of the last entry is told.
use Rattle.std.proofs.Common.{◌∙◌, arith}
use Rattle.session_model.specs.declared.statement.Statement.TheVariants.{After}
use Rattle.session_loop.specs.Steps.{Stored, stored}
use Rattle.session_loop.proofs.ServingLemmas.{after_step}
use Rattle.session_loop.proofs.serve.after.Goals as goal

pub returns-clause-served : goal.returns-clause-served
returns-clause-served g c =
    let old : Stored = stored g.S.Store.told g.S.Store.health c.args.store.now in
    let new : Stored = stored g.S.Store.told g.S.Store.health c.number-number.new.self in
    record {
      reply = _;
      spelled = c.after.ensures;
      step = after_step old new c.args.wanted c.number-number.result c.number-number.ensures.number (omega arith) c.number-number.ensures.kept c.number-number.ensures.alike c.number-number.ensures.health;
    }

pub returns-clause-none_out : goal.returns-clause-none_out
returns-clause-none_out g c = c.number-number.ensures.alike.out ∙ c.requires.none_out
