-- What is asked of a column of an entry, and how long is its record?
use Rattle.std.specs.Prelude.{ℕ, ◌+◌, ◌≤◌, List, length, Contains, Option, None, Some, if◌then◌else◌}
use Rattle.std.specs.Str.{bytes_eq}
use Rattle.tsdb_types.specs.Keys.{IsFirstMark, key_of}
use Rattle.tsdb_types.specs.declared.column.Column.{Column}
use Rattle.tsdb_types.specs.declared.point.Point.{Point}
use Rattle.point_model.specs.Sizes.{head_length, point_length}

-- its series is held, and the key of series and field isn't too long and is cut behind the series
pub record IsFit (held : List (List ℕ)) (column : Column) : Type 0 where
  pub is_held : Contains held column.series
  pub fits : length (key_of column.series column.field) ≤ 65535
  pub marked : IsFirstMark (key_of column.series column.field) (length column.series)

-- the bytes of a point before this one, or before none
abbrev pub length_before : Point → Option Point → ℕ
length_before point None = point_length point + head_length point
length_before point (Some next) = point_length point + (if bytes_eq point.cell.series next.cell.series then 0 else head_length point)
