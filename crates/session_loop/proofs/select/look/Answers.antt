-- By what the store tells when a view begins and ends.
use Rattle.std.proofs.Common.{◌≡◌, ℕ, refl, subst, ap, ◌∙◌, Result, Ok, Err}
use Rattle.std.specs.Prelude.{IsErrOf}
use Rattle.store_trait.specs.declared.fault.ViewFault.TheVariants as fault
use Rattle.store_trait.specs.declared.fault.ViewFault.{ViewFault}
use Rattle.store_trait.specs.Calls.View.{Ends, ViewHasCause, without}
use Rattle.session_model.specs.declared.statement.Statement.TheVariants.{Select as Selects}
use Rattle.session_loop.specs.Steps.{stored}
use Rattle.session_loop.proofs.SelectLemmas.{view_serves, view_refused, view_memory, loan_back}
use Rattle.session_loop.proofs.select.look.Goals as goal

quiet_ok : {V : Type 0} (r : Result V ViewFault) (view : V) → r ≡ Ok view → ¬ (IsErrOf r fault.Fault)
quiet_ok (Ok v) view is = λ wrong. cc wrong
quiet_ok (Err e) view is = cc is

quiet_memory : {V : Type 0} (r : Result V ViewFault) (why : ViewFault) → r ≡ Err why → why ≡ fault.Memory → ¬ (IsErrOf r fault.Fault)
quiet_memory (Ok v) why is memory = cc is
quiet_memory (Err e) why is memory = λ wrong. cc (is, memory, wrong)

pub returns-in-Ok-clause-served : goal.returns-in-Ok-clause-served
returns-in-Ok-clause-served g c =
    let told = g.S.Store.told in
    let health = g.S.Store.health in
    let cursor = g.S.View.PointCursor in
    let ok = c.in-Ok.ensures in
    let rows = c.rows_of-rows in
    let ends = c.end_view.ensures in
    view_serves (λ v. v.items) (stored told health c.args.store.now) (stored told health c.begin_view.new.self) (stored told health c.end_view.new.self)
    c.args.field.now c.args.need.now.measurement c.number-number.result c.rows_of-rows.result c.show.new.text
    (record {
      need = c.args.need.now;
      shown = cursor.shown c.in-Ok.view;
      loan = cursor.loan c.in-Ok.view;
      can_be_damaged = cursor.can_be_damaged c.in-Ok.view;
      began = cursor.health c.in-Ok.view;
      now = cursor.health c.rows_of-rows.new.view;
      of = refl;
      all = c.requires.all;
      begins = ok.ok;
      kept = ok.kept;
      still = c.begin_view.ensures.quiet (quiet_ok _ _ c.in-Ok.is);
      fresh = ok.fresh;
      found = c.rows_of-rows.ensures.ok;
      cause = c.rows_of-rows.ensures.fault;
      ends = subst (λ (n : ℕ). Ends n (told c.begin_view.new.self) (told c.end_view.new.self)) c.rows_of-rows.ensures.loan ends.ended;
      kept_on = ends.kept;
      back = ends.health;
      told = c.number-number.ensures;
    })
    c.show.ensures.spelled c.show.ensures.readable

pub returns-in-Err-Memory-clause-served : goal.returns-in-Err-Memory-clause-served
returns-in-Err-Memory-clause-served g c =
    let e = c.in-Err-Memory.ensures in
    let told = g.S.Store.told in
    let health = g.S.Store.health in
    view_memory (stored told health c.args.store.now) (stored told health c.begin_view.new.self) (Selects c.args.field.now c.args.need.now.measurement) c.out_of_memory.new.self
    c.out_of_memory.ensures e.kept e.err (c.begin_view.ensures.quiet (quiet_memory _ _ c.in-Err-Memory.is c.in-Err-Memory.field-0-is))

pub returns-in-Err-Fault-clause-served : goal.returns-in-Err-Fault-clause-served
returns-in-Err-Fault-clause-served g c =
    let e = c.in-Err-Fault.ensures in
    let told = g.S.Store.told in
    let health = g.S.Store.health in
    view_refused (stored told health c.args.store.now) (stored told health c.begin_view.new.self) c.args.field.now c.args.need.now.measurement c.device_fault.new.self
    c.device_fault.ensures e.kept e.err e.ages
    (subst (λ (f : ViewFault). ViewHasCause (told c.begin_view.new.self) (health c.args.store.now) (health c.begin_view.new.self) f) c.in-Err-Fault.field-0-is e.refused)

pub returns-in-Ok-clause-none_out : goal.returns-in-Ok-clause-none_out
returns-in-Ok-clause-none_out g c =
    let told = g.S.Store.told in
    let loan : ℕ = g.S.View.PointCursor.loan c.in-Ok.view in
    c.end_view.ensures.ended.out ∙ ap (λ (n : ℕ). without n (told c.begin_view.new.self).out) c.rows_of-rows.ensures.loan
    ∙ ap (without loan) c.in-Ok.ensures.ok.out ∙ loan_back loan (told c.args.store.now).out ∙ c.requires.none_out

pub returns-in-Err-Memory-clause-none_out : goal.returns-in-Err-Memory-clause-none_out
returns-in-Err-Memory-clause-none_out g c = c.in-Err-Memory.ensures.err.out ∙ c.requires.none_out

pub returns-in-Err-Fault-clause-none_out : goal.returns-in-Err-Fault-clause-none_out
returns-in-Err-Fault-clause-none_out g c = c.in-Err-Fault.ensures.err.out ∙ c.requires.none_out
