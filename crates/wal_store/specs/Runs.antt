-- How is an entry written: one group for each run of points of one series.
use Rattle.std.specs.Prelude.{ℕ, ◌+◌, ◌^◌, ◌≤◌, List, [], ◌∷◌, ◌++◌, length, if◌then◌else◌}
use Rattle.std.specs.List.{AllByRecursion}
use Rattle.std.specs.Str.{bytes_eq}
use Rattle.fixed_width.specs.Fields.{bytes_of_u32}
use Rattle.tsdb_types.specs.declared.point.Point.{Point}
use Rattle.point_model.specs.Deletions.{IsLoggable}
use Rattle.point_model.specs.declared.entry.Entry.{Entry}
use Rattle.point_model.specs.declared.entry.Entry.TheVariants.{Write, Delete}
use Rattle.wal_store.specs.Form.{Group, groups_bytes}
use Rattle.wal_store.specs.Spelling.{deletion_bytes}

-- the point stands before the first group where that is of its series, else in a group of its own
abbrev pub with_first : Point → List Group → List Group
with_first point [] = record { series = point.cell.series; points = point ∷ [] } ∷ []
with_first point (group ∷ groups) =
    if bytes_eq point.cell.series group.series then record { series = group.series; points = point ∷ group.points } ∷ groups
    else record { series = point.cell.series; points = point ∷ [] } ∷ group ∷ groups

-- neighbours of one series are one group
abbrev pub runs_of : List Point → List Group
runs_of [] = []
runs_of (point ∷ points) = with_first point (runs_of points)

-- an entry as it is written
abbrev pub entry_bytes : Entry → List ℕ
entry_bytes (Write client points) = bytes_of_u32 client ++ (1 ∷ groups_bytes (runs_of points))
entry_bytes (Delete client deletion) = bytes_of_u32 client ++ (2 ∷ deletion_bytes deletion)

-- the texts of a point have at most 65,535 bytes
pub record HasShortTexts (point : Point) : Type 0 where
  pub series : length point.cell.series ≤ 65535
  pub field : length point.cell.field ≤ 65535

-- the texts of an entry have at most 65,535 bytes, and its condition is nested at most 65,536 deep
abbrev pub HasRoom : Entry → Type 0
HasRoom (Write client points) = AllByRecursion HasShortTexts points
HasRoom (Delete client deletion) = IsLoggable deletion

-- an entry that can be written: with its number it has at most 2 ^ 30 bytes
pub record IsWritable (entry : Entry) : Type 0 where
  pub room : HasRoom entry
  pub short : 8 + length (entry_bytes entry) ≤ 2 ^ 30
