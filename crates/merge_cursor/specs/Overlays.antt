-- What do rows of several sources show together, where the newest hides the others?
use Rattle.std.specs.Prelude.{◌≡◌, ℤ, Bool, true, false, List, [], ◌∷◌, Option, None}
use Rattle.std.specs.declared.cmp.Ordering.{Ordering}
use Rattle.std.specs.Ordering.{int_cmp, int_eq}
use Rattle.std.specs.Option.{option_or}
use Rattle.std.specs.List.Sorted.{IsStrictlySortedBy}
use Rattle.std.specs.FinMap.Entries.{put}
use Rattle.std.specs.Map.{keys_of, lookup}
use Rattle.tsdb_types.specs.declared.value.Value.{Value}
use Rattle.point_model.specs.Rows.{Row}

-- the order of two times, ascending or descending
abbrev pub time_cmp : Bool → ℤ → ℤ → Ordering
time_cmp false a b = int_cmp a b
time_cmp true a b = int_cmp b a

-- each time once, in this order
abbrev pub AreInOrder : Bool → List Row → Type 0
AreInOrder descending rows = IsStrictlySortedBy (time_cmp descending) (keys_of rows)

-- the value at a time, where the rows have one
abbrev pub value_of : List Row → ℤ → Option Value
value_of rows time = lookup (int_eq time) rows

-- the value at a time in the newest source that has one there; the newest stands first
abbrev pub newest_value : List (List Row) → ℤ → Option Value
newest_value [] time = None
newest_value (rows ∷ older) time = option_or (value_of rows time) (newest_value older time)

-- in order, each time that a source has, once, with the value of the newest that has it; and no other time
pub record IsOverlay (descending : Bool) (sources : List (List Row)) (rows : List Row) : Type 0 where
  pub ordered : AreInOrder descending rows
  pub values : (time : ℤ) → value_of rows time ≡ newest_value sources time

-- the rows put in their places among others: where a time is there, its value is replaced
abbrev pub with_rows : Bool → List Row → List Row → List Row
with_rows descending [] under = under
with_rows descending (row ∷ rows) under = put (time_cmp descending) row.0 row.1 (with_rows descending rows under)

-- the rows of the oldest source, with those of each newer one put in their places
abbrev pub overlay : Bool → List (List Row) → List Row
overlay descending [] = []
overlay descending (rows ∷ older) = with_rows descending rows (overlay descending older)
