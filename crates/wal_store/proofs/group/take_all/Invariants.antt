use Rattle.wal_store.proofs.GroupLemmas.{TookGroups}
use Rattle.wal_store.proofs.group.take_all.Given as goal

-- so many groups were taken
abbrev pub invariant-loop : goal.invariant-loop
invariant-loop l = TookGroups l.bytes l.rest l.counter l.points.items
