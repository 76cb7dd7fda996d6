use Rattle.series_store.proofs.TakeLemmas.{taken_one, stuck_none, held_none}
use Rattle.series_store.proofs.read.hold_each.Goals as goal

pub returns-in_default-clause-none : goal.returns-in_default-clause-none
returns-in_default-clause-none c = λ no more keys room same is list.
    stuck_none c.args.held.now.keys c.loop.held.keys c.args.bytes.now c.loop.rest.now c.loop.counter c.args.count c.loop.invariant.0 c.loop-test.true c.in_default.ensures.none more room same is

pub returns-then-not-branch-clause-none : goal.returns-then-not-branch-clause-none
returns-then-not-branch-clause-none c = λ no more keys room same is list.
    held_none c.args.held.now.keys c.loop.held.keys c.args.bytes.now c.loop.rest.now c.loop.counter c.args.count c.in-Some.text.now c.in-Some.behind.now c.loop.invariant.0 c.loop-test.true
    c.in-Some.ensures.found c.in-Some.ensures.room (c.in_ok-hold_text.ensures.old c.if-not-branch.true) more keys room same is list

pub loop-preserved : goal.loop-preserved
loop-preserved c =
    let new = c.in_ok-hold_text.ensures.new c.if-not-branch.false in (
      taken_one c.args.held.now.keys c.loop.held.keys c.hold_text.new.held.keys c.args.bytes.now c.loop.rest.now c.loop.counter c.in-Some.text.now c.in-Some.behind.now c.loop.invariant.0
          c.in-Some.ensures.found c.in-Some.ensures.room new.0 new.1,
      c.in_ok-hold_text.ensures.distinct c.if-not-branch.false,
    )
