-- Laws of plans.
use Rattle.std.specs.Prelude.{◌≡◌, ℕ, ◌+◌, ◌≤◌, List}
use Rattle.file_table.specs.declared.row.FileRow.{FileRow}
use Rattle.compact_plan.specs.declared.group.Group.{Group}
use Rattle.compact_plan.specs.Plans.{IsPlan, NoPlan}

-- Some levels have one plan at most. A plan of the lower of them is theirs; where these have none, a plan of those above is
-- theirs; and where neither have one, they have none.
pub record OnePlan : Type 0 where
  pub one : (lowest highest : ℕ) (rows : List FileRow) (group other : Group) → IsPlan lowest highest rows group → IsPlan lowest highest rows other → group ≡ other
  pub lower : (lowest middle highest : ℕ) (rows : List FileRow) (group : Group) → middle ≤ highest → IsPlan lowest middle rows group → IsPlan lowest highest rows group
  pub above : (lowest middle highest : ℕ) (rows : List FileRow) (group : Group) → lowest ≤ middle + 1 → NoPlan lowest middle rows → IsPlan (middle + 1) highest rows group
      → IsPlan lowest highest rows group
  pub none : (lowest middle highest : ℕ) (rows : List FileRow) → NoPlan lowest middle rows → NoPlan (middle + 1) highest rows → NoPlan lowest highest rows
