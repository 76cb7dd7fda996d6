use Rattle.std.proofs.Common.{◌≡◌, length, map, take}
use Rattle.std.specs.Prelude.{fold, max}
use Rattle.tsm_file.proofs.framed.most_blocks.Given as goal

-- the greatest count of the rows so far
abbrev pub invariant-loop-row : goal.invariant-loop-row
invariant-loop-row l = l.most ≡ fold max 0 (map (λ row. length row.entries) (take l.row-index l.rows))
