-- the kinds of those so far are noted
use Rattle.std.proofs.Common.{take}
use Rattle.shard_opening.proofs.KindLemmas.{AreNoted}
use Rattle.shard_opening.proofs.kinds.has_one_kind.Given as goal

abbrev pub invariant-loop-point : goal.invariant-loop-point
invariant-loop-point l = AreNoted (take l.point-index l.points) l.kinds
