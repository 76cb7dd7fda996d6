-- What does a transformation make of the values of a field, one after another?
use Rattle.std.specs.Prelude.{ℤ, pos, ◌+ℤ◌, ◌-ℤ◌, List, [], ◌∷◌, if◌then◌else◌}
use Rattle.std.specs.Int.{int_div_euclid}
use Rattle.std.specs.Ordering.{int_eq}
use Rattle.tsdb_types.specs.Values.{kind_of}
use Rattle.tsdb_types.specs.declared.value.Kind.TheVariants.{Integer}
use Rattle.point_model.specs.Rows.{Row}
use Rattle.query_model.specs.declared.items.Trans.{Trans}
use Rattle.query_model.specs.declared.items.Trans.TheVariants.{Difference, CumulativeSum, Elapsed}
use Rattle.query_model.specs.Exact.{Exact, number, value_as_number}

-- a time, and what is shown at it
abbrev pub ExactRow : Type 0
ExactRow = ℤ × Exact

-- behind this row, the rows without those at the time of the one taken before them
abbrev pub one_a_time_behind : ℤ → List Row → List Row
one_a_time_behind time [] = []
one_a_time_behind time (row ∷ rows) =
    if int_eq time row.0 then one_a_time_behind time rows else row ∷ one_a_time_behind row.0 rows

-- of the values with one time the first alone
abbrev pub one_a_time : List Row → List Row
one_a_time [] = []
one_a_time (row ∷ rows) = row ∷ one_a_time_behind row.0 rows

-- each row less the one before it
abbrev pub differences_from : Row → List Row → List ExactRow
differences_from before [] = []
differences_from before (row ∷ rows) =
    (row.0, number (kind_of row.1) (value_as_number row.1 -ℤ value_as_number before.1)) ∷ differences_from row rows

abbrev pub row_differences : List Row → List ExactRow
row_differences [] = []
row_differences (row ∷ rows) = differences_from row rows

-- the sum up to each row, onto what was summed before
abbrev pub sums_onto : ℤ → List Row → List ExactRow
sums_onto sum [] = []
sums_onto sum (row ∷ rows) =
    (row.0, number (kind_of row.1) (sum +ℤ value_as_number row.1)) ∷ sums_onto (sum +ℤ value_as_number row.1) rows

-- the times from row to row, in whole units
abbrev pub times_from : ℤ → ℤ → List Row → List ExactRow
times_from unit before [] = []
times_from unit before (row ∷ rows) = (row.0, number Integer (int_div_euclid (row.0 -ℤ before) unit)) ∷ times_from unit row.0 rows

abbrev pub elapsed : ℤ → List Row → List ExactRow
elapsed unit [] = []
elapsed unit (row ∷ rows) = times_from unit row.0 rows

-- what the transformation gives of the values of a field in a group, by time and then by series
abbrev pub transformed : Trans → List Row → List ExactRow
transformed Difference rows = row_differences (one_a_time rows)
transformed CumulativeSum rows = sums_onto (pos 0) rows
transformed (Elapsed unit) rows = elapsed unit rows
