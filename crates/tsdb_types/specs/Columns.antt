-- Which columns do points have, and which of them has each point?
use Rattle.std.specs.Prelude.{◌≡◌, ℕ, Bool, not, ◌&&◌, Some, List, [], ◌∷◌, ◌++◌, ℤ, map, filter, slice_get}
use Rattle.std.specs.Str.{bytes_eq}
use Rattle.tsdb_types.specs.declared.column.Column.{Column}
use Rattle.tsdb_types.specs.declared.point.Point.{Point}
use Rattle.tsdb_types.specs.declared.value.Value.{Value}

-- the series and the field of a point
abbrev pub column_of : Point → Column
column_of point = record { series = point.cell.series; field = point.cell.field }

abbrev pub is_same_column : Column → Column → Bool
is_same_column column other = bytes_eq column.series other.series && bytes_eq column.field other.field

-- each column that a point has, once, in the order of their first points
abbrev pub columns_of : List Point → List Column
columns_of [] = []
columns_of (point ∷ points) = column_of point ∷ filter (λ column. not (is_same_column (column_of point) column)) (columns_of points)

-- for each point the place of its column among those columns
abbrev pub ArePlaces : List Point → List ℕ → Type 0
ArePlaces points places = map (slice_get (columns_of points)) places ≡ map (λ point. Some (column_of point)) points

-- behind the points stands one more, of the column that has this place among theirs
abbrev pub IsFurther : List Point → ℕ → ℤ → Value → List Point → Type 0
IsFurther points place time value more =
    (column : Column) → slice_get (columns_of points) place ≡ Some column →
    more ≡ points ++ record { cell = record { time = time; series = column.series; field = column.field }; value = value } ∷ []
