use Rattle.tsm_format.proofs.EntryLemmas.{TakesFrom, HasCounted}
use Rattle.tsm_format.proofs.entries.take_entries.Given as goal

-- so many entries were taken
abbrev pub invariant-loop : goal.invariant-loop
invariant-loop l = TakesFrom l.bytes l.fn.place l.entries.items l.rest l.last l.end × HasCounted l.bytes l.entries.items l.rest l.counter
