-- Which group of rows does a merge take?
use Rattle.std.specs.Prelude.{◌≡◌, ℕ, ◌+◌, ◌<◌, ◌≤◌, ◌==◌, false, List, All, length, sum_by, take, drop, if◌then◌else◌}
use Rattle.file_table.specs.declared.row.FileRow.{FileRow}
use Rattle.compact_plan.specs.declared.group.Group.{Group}

-- so many rows from a place on, the oldest first
abbrev pub rows_from : ℕ → ℕ → List FileRow → List FileRow
rows_from first count rows = take count (drop first rows)

-- the row is of this level, and no merge has it as a source
pub record IsIdle (level : ℕ) (row : FileRow) : Type 0 where
  pub at_level : row.level ≡ level
  pub not_busy : row.busy ≡ false

-- what the rows' most entries sum to: one key may have so many blocks in the file that they are merged to
abbrev pub entries_of : List FileRow → ℕ
entries_of rows = sum_by (λ row. row.most_entries) rows

-- how many rows of a level are merged at once: eight of level 1, four of any other
abbrev pub size_at : ℕ → ℕ
size_at level = if level == 1 then 8 else 4

-- A group of a level begins at this place: as many rows of it as are merged at once, none of them a source of another
-- merge, with together no more entries than one key may have in a file.
pub record BeginsGroup (rows : List FileRow) (level first : ℕ) : Type 0 where
  pub within : first + size_at level ≤ length rows
  pub idle : All (IsIdle level) (rows_from first (size_at level) rows)
  pub entries : entries_of (rows_from first (size_at level) rows) ≤ 65535

-- Of the levels from one to another, both included, this is a group of the lowest that has one, and of that level's
-- groups the one that begins first, from the oldest row on.
pub record IsPlan (lowest highest : ℕ) (rows : List FileRow) (group : Group) : Type 0 where
  pub level : ℕ
  pub from : lowest ≤ level
  pub to : level ≤ highest
  pub count : group.count ≡ size_at level
  pub begins : BeginsGroup rows level group.first
  pub none_earlier : (earlier : ℕ) → earlier < group.first → ¬ BeginsGroup rows level earlier
  pub none_lower : (lower : ℕ) → lowest ≤ lower → lower < level → (place : ℕ) → ¬ BeginsGroup rows lower place

-- no group of the levels from one to another begins anywhere
abbrev pub NoPlan : ℕ → ℕ → List FileRow → Type 0
NoPlan lowest highest rows = (level : ℕ) → lowest ≤ level → level ≤ highest → (place : ℕ) → ¬ BeginsGroup rows level place
