use Rattle.merge_cursor.proofs.ChoiceLemmas.{HasFound}
use Rattle.merge_cursor.proofs.overlay.Overlay.step.Given as goal

abbrev pub invariant-loop-source : goal.invariant-loop-source
invariant-loop-source l = HasFound l.self l.heads l.source l.next
