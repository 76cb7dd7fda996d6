-- What does an aggregate make of the values of a field?
use Rattle.std.specs.Prelude.{ℕ, ℤ, pos, ◌+ℤ◌, ◌-ℤ◌, Bool, not, ◌&&◌, List, [], ◌∷◌, length, fold, filter_map, Option, Some, None, option_map, if◌then◌else◌}
use Rattle.std.specs.Ordering.{int_eq}
use Rattle.tsdb_types.specs.Values.{kind_of}
use Rattle.tsdb_types.specs.declared.value.Kind.TheVariants.{Integer}
use Rattle.point_model.specs.Rows.{Row}
use Rattle.query_model.specs.declared.items.Agg.{Agg}
use Rattle.query_model.specs.declared.items.Agg.TheVariants.{Count, Sum, Min, Max, First, Last, Spread}
use Rattle.query_model.specs.Exact.{Exact, exact_of, is_less, number, value_as_number}
use Rattle.query_model.specs.Records.{Record, value_in}

-- the value of a field in a record, with its time
abbrev pub timed : List ℕ → Record → Option Row
timed field this = option_map (λ value. (this.time, value)) (value_in field this)

-- the values of a field in these records, by time and then by series
abbrev pub field_values : List ℕ → List Record → List Row
field_values field records = filter_map (timed field) records

-- the one that wins over all, each in its turn against the winner of those before
abbrev pub winner : (Row → Row → Bool) → List Row → Option Row
winner wins [] = None
winner wins (row ∷ rows) = Some (fold (λ best next. if wins next best then next else best) row rows)

-- of equal values the earliest stays
abbrev pub least : List Row → Option Row
least = winner (λ next best. is_less next.1 best.1)

abbrev pub greatest : List Row → Option Row
greatest = winner (λ next best. is_less best.1 next.1)

-- the times ascend; of equal times the greater value is taken
abbrev pub earliest : List Row → Option Row
earliest = winner (λ next best. int_eq next.0 best.0 && is_less best.1 next.1)

abbrev pub latest_row : List Row → Option Row
latest_row = winner (λ next best. not (int_eq next.0 best.0 && is_less next.1 best.1))

-- the value that MIN, MAX, FIRST and LAST choose
abbrev pub chosen : Agg → List Row → Option Row
chosen Min = least
chosen Max = greatest
chosen First = earliest
chosen Last = latest_row
chosen Count = λ rows. None
chosen Sum = λ rows. None
chosen Spread = λ rows. None

abbrev pub sum_of : List Row → ℤ
sum_of rows = fold (λ sum row. sum +ℤ value_as_number row.1) (pos 0) rows

abbrev pub spread_of : Option Row → Option Row → Option Exact
spread_of (Some low) (Some high) = Some (number (kind_of low.1) (value_as_number high.1 -ℤ value_as_number low.1))
spread_of None high = None
spread_of (Some low) None = None

abbrev pub summed : List Row → Option Exact
summed [] = None
summed (row ∷ rows) = Some (number (kind_of row.1) (sum_of (row ∷ rows)))

abbrev pub count_of_rows : List Row → Option Exact
count_of_rows [] = None
count_of_rows (row ∷ rows) = Some (number Integer (pos (length (row ∷ rows))))

-- What the aggregate makes of the values; nothing of none. A count is an integer, all else of the field's kind.
abbrev pub folded : Agg → List Row → Option Exact
folded Count rows = count_of_rows rows
folded Sum rows = summed rows
folded Spread rows = spread_of (least rows) (greatest rows)
folded Min rows = option_map (λ row. exact_of row.1) (least rows)
folded Max rows = option_map (λ row. exact_of row.1) (greatest rows)
folded First rows = option_map (λ row. exact_of row.1) (earliest rows)
folded Last rows = option_map (λ row. exact_of row.1) (latest_row rows)
