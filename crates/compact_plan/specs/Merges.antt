-- What does the row of a merged file have of its group?
use Rattle.std.specs.Prelude.{◌≡◌, ◌+◌, ◌-◌, ◌≤◌, List, All, min, slice_get, Some}
use Rattle.file_table.specs.declared.row.FileRow.{FileRow}
use Rattle.compact_plan.specs.declared.group.Group.{Group}
use Rattle.compact_plan.specs.declared.merged.Merged.{Merged}
use Rattle.compact_plan.specs.Plans.{rows_from}

-- The generation is the greatest of the group, which its newest row has; the points were rewritten once more than those of
-- that row, as far as it can be counted; and the level is one higher, but for the highest.
pub record IsMerged (rows : List FileRow) (group : Group) (merged : Merged) : Type 0 where
  pub newest : FileRow
  pub last : slice_get rows (group.first + group.count - 1) ≡ Some newest
  pub greatest : All (λ row. row.generation ≤ newest.generation) (rows_from group.first group.count rows)
  pub generation : merged.generation ≡ newest.generation
  pub sequence : merged.sequence ≡ min (newest.sequence + 1) 4294967295
  pub level : merged.level ≡ min (newest.level + 1) 4
