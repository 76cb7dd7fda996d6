use Rattle.std.proofs.Common.{length}
use Rattle.wal_store.proofs.GroupLemmas.{Puts}
use Rattle.wal_store.proofs.group.put_groups.Given as goal

-- the runs before what is left are put
abbrev pub invariant-loop-run : goal.invariant-loop-run
invariant-loop-run l = Puts l.points l.initial.out.items l.out.items l.rest

abbrev pub decreases-loop-run : goal.decreases-loop-run
decreases-loop-run l = length l.rest
