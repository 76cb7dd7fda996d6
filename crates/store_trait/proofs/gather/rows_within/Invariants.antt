-- The rows so far and those of what is left are all.
use Rattle.std.proofs.Common.{◌≡◌, ◌++◌}
use Rattle.store_trait.specs.Gathered.{rows_set}
use Rattle.store_trait.proofs.gather.rows_within.Given as goal

abbrev pub invariant-loop-time : goal.invariant-loop-time
invariant-loop-time l = l.rows.items ++ rows_set l.from l.to l.time-iterator ≡ rows_set l.from l.to l.column.entries
