-- One entry more, or none.
use Rattle.std.proofs.Common.{rules, ◌≡◌, ◌++◌, ◌∷◌, [], Err, refl, ap}
use Rattle.std.proofs.lemmas.Result.{err_from_is_err_and}
use Rattle.gate_log.specs.declared.fault.LogFault.{LogFault}
use Rattle.gate_log.specs.declared.fault.LogFault.TheVariants.{Damaged}
use Rattle.wal_store.specs.Reading.{Ends, Gives}
use Rattle.wal_store.proofs.ReadingLemmas.{strange_back}
use Rattle.shard_opening.proofs.FillLemmas.{fills_end, fills_more, fills_none}
use Rattle.shard_opening.proofs.filling.fill.Goals as goal

pub loop-init : goal.loop-init
loop-init c = ([], fills_none c.args.series.now.keys c.args.replay.now c.args.filling.now)

pub returns-in_err-place-clause-strange : goal.returns-in_err-place-clause-strange
returns-in_err-place-clause-strange c = λ damage is.
    let p = err_from_is_err_and c.from_residual.result c.from_residual.ensures.1 in
    let told : c.in_err-place.field-0.0 ≡ Damaged damage = cc (p.1, p.2, is) in
    let f = c.loop.invariant in
    strange_back c.args.replay.now c.loop.replay damage f.0 f.1.given f.1.reads (c.in_err-place.ensures.strange damage (ap (λ (e : LogFault). Err e) told))

pub returns-in_err-meet-clause-strange : goal.returns-in_err-meet-clause-strange
returns-in_err-meet-clause-strange c = λ damage is.
    let p = err_from_is_err_and c.from_residual-in_err-meet.result c.from_residual-in_err-meet.ensures.1 in
    let told : c.in_err-meet.field-0.0 ≡ Damaged damage = cc (p.1, p.2, is) in
    absurd (cc (told, c.in_err-meet.ensures.memory c.in_err-meet.field-0.0 refl))

pub returns-in_default-clause-filled : goal.returns-in_default-clause-filled
returns-in_default-clause-filled c =
    let over : Ends c.loop.replay c.next.new.self = search rules in
    let f = c.loop.invariant in
    fills_end c.args.series.now.keys c.args.replay.now c.loop.replay c.next.new.self f.0 c.args.filling.now c.loop.filling f.1 over

pub loop-preserved : goal.loop-preserved
loop-preserved c =
    let given : Gives c.loop.replay c.next.new.self c.in-Some.place c.in-Some.entry = rw c.in-Some.is at c.in_ok-place.ensures.given in
    let f = c.loop.invariant in (
      f.0 ++ (given.passed ++ given.body ∷ []),
      fills_more c.args.series.now.keys c.args.replay.now c.loop.replay c.next.new.self f.0 c.in-Some.place c.in-Some.entry c.args.filling.now c.loop.filling c.meet.new.filling f.1 given c.in_ok-meet.ensures.ok,
    )
