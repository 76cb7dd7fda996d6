-- Of a disk that names no directory each crash clause holds.
use Rattle.std.proofs.Common.{arith}
use Rattle.shard_disk.specs.Directory.{Directory}
use Rattle.shard_disk.specs.Crash.{Follows}
use Rattle.host_disk.specs.Untold.{untold}

pub follows_untold : (step : Directory → Directory → Type 0) → Follows step untold untold
unfolding untold
follows_untold step = record { later = omega arith; each = λ c now. absurd now; within = λ t c le since. absurd since; keeps = λ t c le since. since }
