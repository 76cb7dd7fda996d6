-- The engine stands for what the directory does.
use Rattle.std.proofs.Common.{sym, ap, subst, IsTrue}
use Rattle.shard_recover.specs.Opening.{LeavesState}
use Rattle.shard_recover.specs.Standing.{Stood}
use Rattle.shard_steps.specs.Shards.{state_of}
use Rattle.shard_opening.specs.Opening.{Begins, OpensLogs, Settles}
use Rattle.shard_opening.proofs.OpenedLemmas.{begins, settles}
use Rattle.shard_opening.proofs.opening.open.Goals as goal

pub returns-in-Ok-clause-settled : goal.returns-in-Ok-clause-settled
returns-in-Ok-clause-settled g c =
    let laws = g.met.D.Disk g.world.𝓛 g.world.𝓜 g.world.𝓡 ((λ s x. x), (λ x. x), (λ x. x), (λ x. x)) in
    subst (λ s. Settles g.D.Disk c.args.disk s) (sym c.new-in-Ok.ensures) (settles g.D.Disk c.args.disk _ c.in-Ok.ensures.answers c.in-Ok.ensures.opens (laws.only_now c.in-Ok.logs.disk))

pub returns-in-Ok-clause-begins : goal.returns-in-Ok-clause-begins
returns-in-Ok-clause-begins g c =
    subst (λ s. Begins g.D.Disk c.args.disk s) (sym c.new-in-Ok.ensures) (begins g.D.Disk c.args.disk _ c.in-Ok.ensures.answers c.in-Ok.ensures.opens c.in-Ok.ensures.crash)
