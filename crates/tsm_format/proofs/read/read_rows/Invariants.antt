use Rattle.std.proofs.Common.{length}
use Rattle.tsm_format.proofs.ReadLemmas.{HasRead}
use Rattle.tsm_format.proofs.read.read_rows.Given as goal

-- the rows in front of the rest are good, and their blocks end at the place that is kept
abbrev pub invariant-loop-rest : goal.invariant-loop-rest
invariant-loop-rest l = HasRead l.bytes l.rest l.rows.items l.end

abbrev pub decreases-loop-rest : goal.decreases-loop-rest
decreases-loop-rest l = length l.rest
