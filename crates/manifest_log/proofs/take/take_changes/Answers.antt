use Rattle.std.proofs.Common.{List, sym, subst, arith, length, ap, ◌∙◌, ◌==◌, ℕ}
use Rattle.std.proofs.lemmas.Bool.{false≢true}
use Rattle.manifest_log.specs.declared.change.Change.{Change}
use Rattle.manifest_log.proofs.EditLemmas.{TakesFrom, takes_none, takes_one, stuck_none, left_none}
use Rattle.manifest_log.proofs.take.take_changes.Goals as goal

pub loop-init : goal.loop-init
loop-init c = subst (λ (l : List Change). TakesFrom c.args.bytes.now l c.args.bytes.now 0) (sym c.new-changes.ensures.items) (takes_none c.args.bytes.now)

pub loop-preserved : goal.loop-preserved
loop-preserved c =
    takes_one c.args.bytes.now c.loop.changes.items c.push.new.self.items c.loop.rest.now c.in-Some.behind.now c.loop.counter c.in-Some.change c.loop.invariant c.in-Some.ensures.found c.in-Some.ensures.room c.in_ok-push.ensures.items

pub returns-in_default-clause-none : goal.returns-in_default-clause-none
returns-in_default-clause-none c =
    stuck_none c.args.bytes.now c.loop.changes.items c.loop.rest.now c.loop.counter c.args.count c.loop.invariant c.loop-test.true c.in_default.ensures.none

pub returns-then-not-is_empty-clause-none : goal.returns-then-not-is_empty-clause-none
returns-then-not-is_empty-clause-none c =
    left_none c.args.bytes.now c.loop.changes.items c.loop.rest.now c.loop.counter c.args.count c.loop.invariant (omega (arith, c.loop-test.false)) (omega (arith, c.loop.auto.counter-end)) (λ is. false≢true (sym c.if-not-is_empty.true ∙ c.is_empty.ensures ∙ ap (λ (l : List ℕ). length l == 0) is))
