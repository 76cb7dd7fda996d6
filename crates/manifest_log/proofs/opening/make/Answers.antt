use Rattle.std.proofs.Common.{◌∷◌, [], refl, inl}
use Rattle.shard_disk.specs.Crash.{Same}
use Rattle.shard_disk.specs.Directory.{Appears, ChangesAt, MadeOrNot}
use Rattle.shard_disk.proofs.Runs.{rests}
use Rattle.manifest_log.proofs.BeginLemmas.{makes_none_same}
use Rattle.manifest_log.proofs.opening.make.Goals as goal

pub returns-then-next_number-ne0-clause-refused : goal.returns-then-next_number-ne0-clause-refused
returns-then-next_number-ne0-clause-refused g c =
    let laws = g.met.D.Disk g.world.𝓛 g.world.𝓜 g.world.𝓡 ((λ s x. x), (λ x. x), (λ x. x), (λ x. x)) in
    makes_none_same _ _ _ _ _ _ _ refl (rests Same (g.D.Disk.crashes c.args.disk.now) (laws.only_now c.args.disk.now) (λ d now. refl)) refl

pub returns-then-next_number-ne0-clause-crash : goal.returns-then-next_number-ne0-clause-crash
returns-then-next_number-ne0-clause-crash g c = λ tells.
    let laws = g.met.D.Disk g.world.𝓛 g.world.𝓜 g.world.𝓡 ((λ s x. x), (λ x. x), (λ x. x), (λ x. x)) in
    rests (ChangesAt 0 (MadeOrNot (Appears (0 ∷ [])))) (g.D.Disk.crashes c.args.disk.now) (laws.only_now c.args.disk.now) (λ d now. record { here = inl refl; others = λ n ne. refl })
