use Rattle.std.proofs.Common.{refl}
use Rattle.shard_disk.specs.Crash.{Same}
use Rattle.shard_disk.proofs.Runs.{starts}
use Rattle.shard_recover.proofs.present.list.Goals as goal

pub returns-in_err-numbers-clause-crash : goal.returns-in_err-numbers-clause-crash
returns-in_err-numbers-clause-crash g c =
    let laws = g.met.D.Disk g.world.𝓛 g.world.𝓜 g.world.𝓡 ((λ s x. x), (λ x. x), (λ x. x), (λ x. x)) in
    starts Same (g.D.Disk.crashes c.args.disk.now) _ (laws.only_now c.args.disk.now) (λ d. refl) c.list.ensures.crash

pub returns-clause-crash : goal.returns-clause-crash
returns-clause-crash g c =
    let laws = g.met.D.Disk g.world.𝓛 g.world.𝓜 g.world.𝓡 ((λ s x. x), (λ x. x), (λ x. x), (λ x. x)) in
    starts Same (g.D.Disk.crashes c.args.disk.now) _ (laws.only_now c.args.disk.now) (λ d. refl) c.list.ensures.crash
