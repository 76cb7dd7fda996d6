use Rattle.std.proofs.Common.{◌≡◌, length}
use Rattle.file_tests.proofs.TableLemmas.{HasRows}
use Rattle.file_tests.proofs.plans.table_of.Given as goal

abbrev pub invariant-loop-row : goal.invariant-loop-row
invariant-loop-row l = record { counted : l.no ≡ l.row-index; rows : HasRows l.no (length l.rows) l.table }
