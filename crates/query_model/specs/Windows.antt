-- Into which windows is a group cut, and what stands in one for an item without a value?
use Rattle.std.specs.Prelude.{ℕ, ℤ, pos, ◌+◌, ◌+ℤ◌, ◌-ℤ◌, ◌*ℤ◌, nat_abs, Bool, List, [], ◌∷◌, map, filter, Option, Some, None, unwrap_or, option_map, if◌then◌else◌}
use Rattle.std.specs.Int.{int_div_euclid}
use Rattle.std.specs.List.{list_any, range_with_len}
use Rattle.std.specs.Option.{is_some}
use Rattle.std.specs.Ordering.{int_eq}
use Rattle.tsdb_types.specs.declared.value.Kind.TheVariants.{Integer}
use Rattle.query_model.specs.declared.items.Agg.{Agg}
use Rattle.query_model.specs.declared.items.Agg.TheVariants as agg
use Rattle.query_model.specs.declared.items.AggItem.{AggItem}
use Rattle.query_model.specs.declared.select.Fill.{Fill}
use Rattle.query_model.specs.declared.select.Fill.TheVariants as fill
use Rattle.query_model.specs.declared.select.Select.{Select}
use Rattle.query_model.specs.Aggregates.{folded, field_values}
use Rattle.query_model.specs.Exact.{Exact, number}
use Rattle.query_model.specs.Records.{Record, value_in}
use Rattle.query_model.specs.Selected.{highest_time}

-- the start of the window in which a time lies: windows of this length, one of which begins at the offset
abbrev pub window_start : ℤ → ℤ → ℤ → ℤ
window_start length offset time = (int_div_euclid (time -ℤ offset) length *ℤ length) +ℤ offset

-- an item has a value in the record
abbrev pub has_item_value : List AggItem → Record → Bool
has_item_value items this = list_any (λ item. is_some (value_in item.field this)) items

-- the time of the earliest record with a value of an item
abbrev pub earliest_time : List AggItem → List Record → Option ℤ
earliest_time items [] = None
earliest_time items (this ∷ records) = if has_item_value items this then Some this.time else earliest_time items records

-- a list of windows of one length, one behind the other
pub record Span : Type 0 where
  pub start : ℤ
  pub count : ℕ

abbrev pub span_between : ℤ → ℤ → ℤ → Span
span_between length first last = record { start = first; count = nat_abs (int_div_euclid (last -ℤ first) length) + 1 }

-- the windows of a group from the lower bound on, or from its earliest record with a value, to the upper bound; none without a value
abbrev pub span_of : Select → (ℤ × ℤ) → List AggItem → List Record → Option Span
span_of select windows items records =
    option_map (λ time. span_between windows.0 (window_start windows.0 windows.1 (unwrap_or select.lower time)) (window_start windows.0 windows.1 (highest_time select)))
    (earliest_time items records)

abbrev pub starts_of : ℤ → Span → List ℤ
starts_of length span = map (λ place. span.start +ℤ (pos place *ℤ length)) (range_with_len 0 span.count)

-- a row of aggregates: its time, and what each item makes of its values there
pub record AggRow : Type 0 where
  pub time : ℤ
  pub cells : List (Option Exact)

abbrev pub cells_of : List AggItem → List Record → List (Option Exact)
cells_of items records = map (λ item. folded item.call (field_values item.field records)) items

-- the records of the window that starts there
abbrev pub members_at : (ℤ × ℤ) → ℤ → List Record → List Record
members_at windows start records = filter (λ this. int_eq (window_start windows.0 windows.1 this.time) start) records

abbrev pub agg_rows_at : (ℤ × ℤ) → List AggItem → List Record → List ℤ → List AggRow
agg_rows_at windows items records starts =
    map (λ start. record { time = start; cells = cells_of items (members_at windows start records) }) starts

-- a count of nothing is 0, and nothing else is made of nothing
abbrev pub of_nothing : Agg → Option Exact
of_nothing agg.Count = Some (number Integer (pos 0))
of_nothing agg.Sum = None
of_nothing agg.Min = None
of_nothing agg.Max = None
of_nothing agg.First = None
of_nothing agg.Last = None
of_nothing agg.Spread = None

abbrev pub or_else : Option Exact → Option Exact → Option Exact
or_else (Some found) other = Some found
or_else None other = other

-- the cells of one row, with these where there is none
abbrev pub cells_or : List (Option Exact) → List (Option Exact) → List (Option Exact)
cells_or [] others = []
cells_or (cell ∷ cells) [] = cell ∷ cells
cells_or (cell ∷ cells) (other ∷ others) = or_else cell other ∷ cells_or cells others

abbrev pub with_cells : AggRow → List (Option Exact) → AggRow
with_cells row cells = record { time = row.time; cells = cells }

-- each row, with the cells of the row before it where it has none
abbrev pub with_previous : List (Option Exact) → List AggRow → List AggRow
with_previous before [] = []
with_previous before (row ∷ rows) = with_cells row (cells_or row.cells before) ∷ with_previous (cells_or row.cells before) rows

abbrev pub has_cell : AggRow → Bool
has_cell row = list_any is_some row.cells

-- what stands in a window for an item without a value
abbrev pub filled : Fill → List AggItem → List AggRow → List AggRow
filled fill.Null items rows = map (λ row. with_cells row (cells_or row.cells (map (λ item. of_nothing item.call) items))) rows
filled fill.None items rows = filter has_cell rows
filled fill.Previous items rows = with_previous [] rows
filled (fill.Number n) items rows = map (λ row. with_cells row (cells_or row.cells (map (λ item. Some (number Integer n)) items))) rows
