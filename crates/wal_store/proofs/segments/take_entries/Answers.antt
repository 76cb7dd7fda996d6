use Rattle.std.proofs.Common.{rules, ◌≡◌, Err, ap}
use Rattle.std.proofs.lemmas.Result.{err_from_is_err_and}
use Rattle.gate_log.specs.declared.fault.LogFault.{LogFault}
use Rattle.gate_log.specs.declared.fault.LogFault.TheVariants.{Damaged}
use Rattle.wal_store.specs.Reading.{Ends, Gives}
use Rattle.wal_store.proofs.ReadingLemmas.{strange_back, taken_more, taken_none, takes_all}
use Rattle.wal_store.proofs.segments.take_entries.Goals as goal

pub loop-init : goal.loop-init
loop-init c = taken_none c.args.replay.now c.args.entries.now.items

pub returns-in_err-entry-clause-strange : goal.returns-in_err-entry-clause-strange
returns-in_err-entry-clause-strange c = λ damage is.
    let p = err_from_is_err_and c.from_residual.result c.from_residual.ensures.1 in
    let told : c.in_err-entry.field-0.0 ≡ Damaged damage = cc (p.1, p.2, is) in
    let taken = c.loop.invariant in
    strange_back c.args.replay.now c.loop.replay damage taken.read taken.given taken.reads (c.in_err-entry.ensures.strange damage (ap (λ (e : LogFault). Err e) told))

pub returns-in_default-clause-taken : goal.returns-in_default-clause-taken
returns-in_default-clause-taken c =
    let over : Ends c.loop.replay c.next.new.self = search rules in
    takes_all c.args.replay.now c.loop.replay c.next.new.self c.args.entries.now.items c.loop.entries.items c.loop.invariant over

pub loop-preserved : goal.loop-preserved
loop-preserved c =
    let given : Gives c.loop.replay c.next.new.self c.in-Some.field-0-0 c.in-Some.entry = rw c.in-Some.is at c.in_ok-entry.ensures.given in
    taken_more c.args.replay.now c.loop.replay c.next.new.self c.in-Some.field-0-0 c.in-Some.entry c.args.entries.now.items c.loop.entries.items c.push.new.self.items c.loop.invariant
    given c.in_ok-push.ensures.items
