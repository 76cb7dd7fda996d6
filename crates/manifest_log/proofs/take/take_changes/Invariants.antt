use Rattle.manifest_log.proofs.EditLemmas.{TakesFrom}
use Rattle.manifest_log.proofs.take.take_changes.Given as goal

-- so many changes were taken
abbrev pub invariant-loop : goal.invariant-loop
invariant-loop l = TakesFrom l.bytes l.changes.items l.rest l.counter
