use Rattle.wal_store.specs.Reading.{Passes}
use Rattle.wal_store.proofs.replay.Replay.next.Given as goal

abbrev pub invariant-loop : goal.invariant-loop
invariant-loop l = Passes l.fn.self l.self
