use Rattle.std.proofs.Common.{length}
use Rattle.tombstones.proofs.ReadLemmas.{HasRead}
use Rattle.tombstones.proofs.read.read_tombs.Given as goal

-- the tombstones in front of the rest are in the set
abbrev pub invariant-loop-rest : goal.invariant-loop-rest
invariant-loop-rest l = HasRead l.tombs l.rest l.set

abbrev pub decreases-loop-rest : goal.decreases-loop-rest
decreases-loop-rest l = length l.rest
