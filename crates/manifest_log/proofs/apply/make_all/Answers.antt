use Rattle.std.proofs.Common.{refl}
use Rattle.manifest_log.proofs.ApplyLemmas.{made_more, made_none, made_all}
use Rattle.manifest_log.proofs.apply.make_all.Goals as goal

pub loop-change-init : goal.loop-change-init
loop-change-init c = refl

pub returns-then-not-branch-clause-not_made : goal.returns-then-not-branch-clause-not_made
returns-then-not-branch-clause-not_made c = λ no.
    made_none c.args.directory.now c.loop-change.directory c.args.changes.now c.loop-change.change-index _ c.loop-change-test.true c.loop-change.invariant (c.in_ok-make.ensures.not_made c.if-not-branch.true)

pub loop-change-preserved : goal.loop-change-preserved
loop-change-preserved c =
    made_more c.args.directory.now c.loop-change.directory c.make.new.directory c.args.changes.now c.loop-change.change-index _ c.loop-change-test.true c.loop-change.invariant (c.in_ok-make.ensures.made c.if-not-branch.false)

pub returns-clause-made : goal.returns-clause-made
returns-clause-made c = λ yes. made_all c.args.directory.now c.loop-change.directory c.args.changes.now c.loop-change.change-index c.loop-change-test.false c.loop-change.invariant
