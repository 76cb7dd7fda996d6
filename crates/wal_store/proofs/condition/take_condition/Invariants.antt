use Rattle.std.proofs.Common.{length}
use Rattle.wal_store.proofs.StackLemmas.{Reading}
use Rattle.wal_store.proofs.condition.take_condition.Given as goal

abbrev pub invariant-parts : goal.invariant-parts
invariant-parts l = Reading 65536 l.bytes l.reader l.rest

abbrev pub decreases-parts : goal.decreases-parts
decreases-parts l = length l.rest
