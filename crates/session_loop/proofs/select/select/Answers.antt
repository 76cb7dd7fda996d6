-- All points of the measurement are asked for, where there is memory for that.
use Rattle.std.proofs.Common.{ℕ, List, refl, subst}
use Rattle.session_model.specs.declared.statement.Statement.TheVariants.{Select as Selects}
use Rattle.session_loop.specs.Steps.{Stored, Serves, stored}
use Rattle.session_loop.proofs.StepLemmas.{keeps_still}
use Rattle.session_loop.proofs.ServingLemmas.{still_kept}
use Rattle.session_loop.proofs.SelectLemmas.{view_memory}
use Rattle.session_loop.proofs.select.select.Goals as goal

pub returns-in-Ok-clause-served : goal.returns-in-Ok-clause-served
returns-in-Ok-clause-served g c =
    let old : Stored = stored g.S.Store.told g.S.Store.health c.args.store.now in
    let new : Stored = stored g.S.Store.told g.S.Store.health c.look.new.store in
    subst (λ (m : List ℕ). Serves old (Selects c.args.field.now m) c.look.new.text c.look.result new) c.in-Ok.ensures.measurement c.look.ensures.served

pub returns-in-Err-clause-served : goal.returns-in-Err-clause-served
returns-in-Err-clause-served g c =
    let store : Stored = stored g.S.Store.told g.S.Store.health c.args.store.now in
    view_memory store store (Selects c.args.field.now c.args.measurement) c.out_of_memory.new.self c.out_of_memory.ensures (keeps_still store.told) (still_kept store) refl
