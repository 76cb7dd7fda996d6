-- The deletion was accepted, or refused by a cause.
use Rattle.std.proofs.Common.{◌≡◌, ℕ, sym, ◌∙◌, subst, arith, Option, Result, Ok, Err}
use Rattle.std.specs.Prelude.{IsErrOf}
use Rattle.store_trait.specs.declared.fault.DeleteFault.{DeleteFault}
use Rattle.store_trait.specs.declared.fault.DeleteFault.TheVariants as fault
use Rattle.session_model.specs.declared.statement.Statement.TheVariants.{Delete}
use Rattle.session_loop.specs.Steps.{Stored, Serves, stored}
use Rattle.session_loop.proofs.StepLemmas.{deleted_step}
use Rattle.session_loop.proofs.ServingLemmas.{deletion_refused_serves}
use Rattle.session_loop.proofs.serve.delete.Goals as goal

quiet_ok : (r : Result ℕ DeleteFault) (number : ℕ) → r ≡ Ok number → ¬ (IsErrOf r fault.Fault)
quiet_ok (Ok n) number is = λ wrong. cc wrong
quiet_ok (Err e) number is = cc is

quiet_err : (r : Result ℕ DeleteFault) (why : DeleteFault) → r ≡ Err why → (why ≡ fault.Fault → ⊥) → ¬ (IsErrOf r fault.Fault)
quiet_err (Ok n) why is other = cc is
quiet_err (Err e) why is other = λ wrong. other (cc (is, wrong))

pub returns-in-Ok-clause-served : goal.returns-in-Ok-clause-served
returns-in-Ok-clause-served g c =
    let old : Stored = stored g.S.Store.told g.S.Store.health c.args.store.now in
    let new : Stored = stored g.S.Store.told g.S.Store.health c.delete.new.self in
    record {
      reply = _;
      spelled = c.accepted.ensures;
      step = λ request moment means. deleted_step old new request moment c.args.deletion.now c.in-Ok.entry (omega arith) means c.in-Ok.ensures.ok c.delete.ensures.kept (c.delete.ensures.quiet (quiet_ok _ _ c.in-Ok.is));
    }

pub returns-in-Err-clause-served : goal.returns-in-Err-clause-served
returns-in-Err-clause-served g c =
    let old : Stored = stored g.S.Store.told g.S.Store.health c.args.store.now in
    let new : Stored = stored g.S.Store.told g.S.Store.health c.delete.new.self in
    subst (λ (n : Option ℕ). Serves old (Delete c.args.deletion.now) c.not_deleted.new.text n new) (sym c.not_deleted.ensures.number)
    (deletion_refused_serves old new c.args.deletion.now c.not_deleted.new.text c.delete.ensures.kept c.delete.ensures.ages c.in-Err.fault c.in-Err.ensures.err c.not_deleted.ensures.text
    c.in-Err.ensures.refused (λ other. c.delete.ensures.quiet (quiet_err _ _ c.in-Err.is other)))

pub returns-in-Ok-clause-none_out : goal.returns-in-Ok-clause-none_out
returns-in-Ok-clause-none_out g c = c.in-Ok.ensures.ok.out ∙ c.requires.none_out

pub returns-in-Err-clause-none_out : goal.returns-in-Err-clause-none_out
returns-in-Err-clause-none_out g c = c.in-Err.ensures.err.out ∙ c.requires.none_out
