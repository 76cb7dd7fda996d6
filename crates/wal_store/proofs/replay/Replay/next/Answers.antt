use Rattle.std.proofs.Common.{◌≡◌, Err, sym, ap, subst, arith}
use Rattle.std.proofs.lemmas.Result.{err_from_is_err_and}
use Rattle.gate_log.specs.declared.fault.LogFault.{LogFault}
use Rattle.gate_log.specs.declared.fault.LogFault.TheVariants.{Damaged}
use Rattle.wal_store.specs.Reading.{Follows, Passes, Replaying}
use Rattle.wal_store.proofs.ReadingLemmas.{gives, passed_more, passed_none, strange_at}
use Rattle.wal_store.proofs.replay.Replay.next.Goals as goal

pub loop-init : goal.loop-init
loop-init c = passed_none c.args.self.now

pub returns-in_err-number-clause-refused : goal.returns-in_err-number-clause-refused
returns-in_err-number-clause-refused c =
    let p = err_from_is_err_and c.from_residual.result c.from_residual.ensures.1 in
    rw p.1 (subst (Passes c.args.self.now) (sym c.in_err-number.ensures.refused) c.loop.invariant)

pub returns-in_err-number-clause-strange : goal.returns-in_err-number-clause-strange
returns-in_err-number-clause-strange c = λ damage is.
    let p = err_from_is_err_and c.from_residual.result c.from_residual.ensures.1 in
    let told : c.in_err-number.field-0.0 ≡ Damaged damage = cc (p.1, p.2, is) in
    strange_at c.args.self.now c.loop.self damage c.loop.invariant (c.in_err-number.ensures.strange damage (ap (λ (e : LogFault). Err e) told))

pub returns-then-number-self-clause-given : goal.returns-then-number-self-clause-given
returns-then-number-self-clause-given c =
    let next : Follows c.loop.self c.follow.new.self c.in-Some.number c.in-Some.entry = rw c.in-Some.is at c.in_ok-number.ensures.follows in
    gives c.args.self.now c.loop.self c.follow.new.self c.in-Some.number c.in-Some.entry c.loop.invariant next
    (omega (arith, c.if-number-self.true, ap (λ (r : Replaying). r.floor) next.is, ap (λ (r : Replaying). r.floor) c.self.view_is)) c.place-place.result c.place-place.ensures

pub loop-preserved : goal.loop-preserved
loop-preserved c =
    let next : Follows c.loop.self c.follow.new.self c.in-Some.number c.in-Some.entry = rw c.in-Some.is at c.in_ok-number.ensures.follows in
    passed_more c.args.self.now c.loop.self c.follow.new.self c.in-Some.number c.in-Some.entry c.loop.invariant next
    (omega (arith, c.if-number-self.false, ap (λ (r : Replaying). r.floor) next.is, ap (λ (r : Replaying). r.floor) c.self.view_is))
