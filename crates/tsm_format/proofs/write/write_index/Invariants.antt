use Rattle.std.proofs.Common.{◌≡◌, take}
use Rattle.tsm_format.specs.Format.{index_bytes}
use Rattle.tsm_format.proofs.write.write_index.Given as goal

-- the rows so far are written
abbrev pub invariant-loop-row : goal.invariant-loop-row
invariant-loop-row l = l.out.items ≡ index_bytes (take l.row-index l.rows)
