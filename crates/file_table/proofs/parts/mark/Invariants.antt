use Rattle.std.proofs.Common.{◌≡◌, ◌-◌}
use Rattle.file_table.proofs.parts.mark.Given as goal
use Rattle.std.proofs.Common.{vec_capacity, vec_len}
use Rattle.file_table.specs.Calls.{marked}

abbrev pub invariant-loop-k : goal.invariant-loop-k
invariant-loop-k l = (l.rows.items ≡ marked l.first (l.k - l.first) l.busy l.initial.rows.items) × (vec_capacity l.rows ≡ vec_capacity l.initial.rows) × (vec_len l.rows ≡ vec_len l.initial.rows)
