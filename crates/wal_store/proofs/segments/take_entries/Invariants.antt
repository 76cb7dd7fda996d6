use Rattle.wal_store.proofs.ReadingLemmas.{Taken}
use Rattle.wal_store.proofs.segments.take_entries.Given as goal

abbrev pub invariant-loop : goal.invariant-loop
invariant-loop l = Taken l.fn.replay l.replay l.fn.entries.items l.entries.items
