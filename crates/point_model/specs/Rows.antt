-- What the points hold of one field of a measurement.
use Rattle.std.specs.Prelude.{ℕ, ℤ, List, [], ◌∷◌, if◌then◌else◌, Bool, ◌&&◌, nat_eq}
use Rattle.std.specs.Cmp.Lexicographic.{pointwise}
use Rattle.tsdb_types.specs.declared.point.Cell.{Cell}
use Rattle.tsdb_types.specs.declared.value.Value.{Value}
use Rattle.tsdb_types.specs.Series.{is_series_of}
use Rattle.point_model.specs.Points.{Points}

-- a time, and the value at it
abbrev pub Row : Type 0
Row = ℤ × Value

-- the cell is one of this field, in some series of the measurement
abbrev pub is_of : List ℕ → List ℕ → Cell → Bool
is_of measurement field cell = is_series_of measurement cell.series && pointwise nat_eq cell.field field

-- the values of the field, in the order of their times and, at one time, of their series
abbrev pub rows_of : List ℕ → List ℕ → Points → List Row
rows_of measurement field [] = []
rows_of measurement field (point ∷ points) =
    if is_of measurement field point.0 then (point.0.time, point.1) ∷ rows_of measurement field points
    else rows_of measurement field points
