use Rattle.std.proofs.Common.{refl}
use Rattle.shard_disk.specs.Crash.{Same}
use Rattle.shard_disk.proofs.Runs.{rests}
use Rattle.shard_opening.proofs.segments.open_first.Goals as goal

pub returns-then-not-is_there-clause-crash : goal.returns-then-not-is_there-clause-crash
returns-then-not-is_there-clause-crash g c =
    let laws = g.met.D.Disk g.world.𝓛 g.world.𝓜 g.world.𝓡 ((λ s x. x), (λ x. x), (λ x. x), (λ x. x)) in
    rests Same (g.D.Disk.crashes c.args.disk.now) (laws.only_now c.args.disk.now) (λ d now. refl)
