use Rattle.std.proofs.Common.{◌++◌, rules, subst, sym, FitsSigned, w64}
use Rattle.std.proofs.lemmas.Int.{to_z-of_z}
use Rattle.tsdb_types.specs.Moments.{IsMoment}
use Rattle.wal_store.specs.Form.{value_bytes}
use Rattle.wal_store.proofs.TextLemmas.{if_none}
use Rattle.wal_store.proofs.PointLemmas.{short_time, no_moment, no_value}
use Rattle.wal_store.proofs.point.take_stamped.Goals as goal

pub returns-in_err-nanoseconds-clause-none : goal.returns-in_err-nanoseconds-clause-none
returns-in_err-nanoseconds-clause-none c = if_none c.from_residual.result (λ time value rest moment is. short_time c.args.bytes.now c.in_err-nanoseconds.ensures.cut time (value_bytes value ++ rest) moment)

pub returns-in_err-value-clause-none : goal.returns-in_err-value-clause-none
returns-in_err-value-clause-none c =
    let fits : FitsSigned w64 c.in_ok-nanoseconds.nanoseconds = search rules in
    if_none c.from_residual-in_err-value.result (no_value c.args.bytes.now c.in_ok-nanoseconds.rest.now c.in_ok-nanoseconds.nanoseconds fits c.in_ok-nanoseconds.ensures.found c.in_err-value.ensures.none)

pub returns-in-None-clause-none : goal.returns-in-None-clause-none
returns-in-None-clause-none c =
    let fits : FitsSigned w64 c.in_ok-nanoseconds.nanoseconds = search rules in
    λ time value rest moment is. no_moment c.args.bytes.now c.in_ok-nanoseconds.rest.now c.in_ok-nanoseconds.nanoseconds fits c.in_ok-nanoseconds.ensures.found
    (λ ok. c.in-None.ensures (subst IsMoment (sym (to_z-of_z w64 c.in_ok-nanoseconds.nanoseconds fits)) ok)) time (value_bytes value ++ rest) moment
