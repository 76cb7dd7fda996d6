use Rattle.std.proofs.Common.{sym, subst, arith, rules, FitsSigned, w64}
use Rattle.std.proofs.lemmas.Int.{to_z-of_z}
use Rattle.tsdb_types.specs.Moments.{IsMoment}
use Rattle.wal_store.proofs.TextLemmas.{if_none}
use Rattle.wal_store.proofs.EntryLemmas.{other_long, second_long, third_long, no_from, no_to}
use Rattle.wal_store.proofs.entry.take_bounds.Goals as goal

pub returns-in_err-from-clause-none : goal.returns-in_err-from-clause-none
returns-in_err-from-clause-none c = if_none c.from_residual.result (other_long c.args.bytes.now (λ long. omega (arith, long, c.in_err-from.ensures.cut)))

pub returns-in_err-to-clause-none : goal.returns-in_err-to-clause-none
returns-in_err-to-clause-none c =
    if_none c.from_residual-in_err-to.result (second_long c.args.bytes.now c.in_ok-from.rest.now c.in_ok-from.from c.in_ok-from.ensures.found (λ long. omega (arith, long, c.in_err-to.ensures.cut)))

pub returns-then-not-is_empty-clause-none : goal.returns-then-not-is_empty-clause-none
returns-then-not-is_empty-clause-none c =
    third_long c.args.bytes.now c.in_ok-from.rest.now c.in_ok-to.rest.now c.in_ok-from.from c.in_ok-to.to c.in_ok-from.ensures.found c.in_ok-to.ensures.found (λ none. search (rules, none))

pub returns-in-None-clause-none : goal.returns-in-None-clause-none
returns-in-None-clause-none c =
    let fits : FitsSigned w64 c.in_ok-from.from = search rules in
    no_from c.args.bytes.now c.in_ok-from.rest.now c.in_ok-from.from fits c.in_ok-from.ensures.found (λ ok. c.in-None.ensures (subst IsMoment (sym (to_z-of_z w64 c.in_ok-from.from fits)) ok))

pub returns-in-None-new-clause-none : goal.returns-in-None-new-clause-none
returns-in-None-new-clause-none c =
    let fits : FitsSigned w64 c.in_ok-from.from = search rules in
    let also : FitsSigned w64 c.in_ok-to.to = search rules in
    no_to c.args.bytes.now c.in_ok-from.rest.now c.in_ok-to.rest.now c.in_ok-from.from c.in_ok-to.to fits also c.in_ok-from.ensures.found c.in_ok-to.ensures.found (λ ok. c.in-None-new.ensures (subst IsMoment (sym (to_z-of_z w64 c.in_ok-to.to also)) ok))
