-- A refusal is told.
use Rattle.std.proofs.Common.{None, subst, sym}
use Rattle.session_model.specs.declared.statement.Statement.{Statement}
use Rattle.session_loop.specs.Steps.{Serves, stored}
use Rattle.session_loop.proofs.ServingLemmas.{refusal_serves, not_built_serves}
use Rattle.session_loop.proofs.serve.serve.Goals as goal

pub returns-in-Refused-clause-served : goal.returns-in-Refused-clause-served
returns-in-Refused-clause-served g c =
    let store = stored g.S.Store.told g.S.Store.health c.args.store.now in
    subst (λ (asks : Statement). Serves store asks c.refused.new.self None store) (sym c.in-Refused.is)
    (refusal_serves store c.in-Refused.refusal c.refused.new.self c.refused.ensures.text c.refused.ensures.readable)

pub returns-in-NotBuilt-clause-served : goal.returns-in-NotBuilt-clause-served
returns-in-NotBuilt-clause-served g c =
    let store = stored g.S.Store.told g.S.Store.health c.args.store.now in
    subst (λ (asks : Statement). Serves store asks c.not_built.new.self None store) (sym c.in-NotBuilt.is)
    (not_built_serves store c.not_built.new.self c.not_built.ensures)
