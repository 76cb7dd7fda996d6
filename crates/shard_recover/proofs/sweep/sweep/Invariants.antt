use Rattle.std.proofs.Common.{◌≡◌, drop, IsTrue}
use Rattle.std.specs.FinMap.{keys}
use Rattle.shard_recover.specs.Opening.{Removes}
use Rattle.shard_recover.proofs.SweepLemmas.{Sweeps}
use Rattle.shard_recover.proofs.sweep.sweep.Given as goal

abbrev pub invariant-loop-number : goal.invariant-loop-number
invariant-loop-number g l =
    Removes g.D.Disk l.keep l.initial.disk l.disk × (g.D.Disk.health l.disk ≡ g.D.Disk.health l.initial.disk)
    × (IsTrue g.D.Disk.tells → l.numbers ≡ keys (g.D.Disk.files l.initial.disk) → Sweeps l.keep (drop l.number-index l.numbers) (g.D.Disk.files l.disk))
