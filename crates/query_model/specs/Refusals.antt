-- For what may a SELECT be refused that can be read?
use Rattle.std.specs.Prelude.{ℕ, ℤ, Bool, true, false, not, ◌&&◌, nat_le, List, filter, Option, Some, None, if◌then◌else◌}
use Rattle.std.specs.List.{list_any}
use Rattle.tsdb_types.specs.declared.value.Value.{Value}
use Rattle.tsdb_types.specs.declared.value.Value.TheVariants as value
use Rattle.point_model.specs.Points.{Points}
use Rattle.query_model.specs.declared.items.Agg.{Agg}
use Rattle.query_model.specs.declared.items.Agg.TheVariants as agg
use Rattle.query_model.specs.declared.items.AggItem.{AggItem}
use Rattle.query_model.specs.declared.items.Items.{Items}
use Rattle.query_model.specs.declared.items.Items.TheVariants as items
use Rattle.query_model.specs.declared.items.Trans.{Trans}
use Rattle.query_model.specs.declared.items.Trans.TheVariants as trans
use Rattle.query_model.specs.declared.select.Fill.{Fill}
use Rattle.query_model.specs.declared.select.Fill.TheVariants as fill
use Rattle.query_model.specs.declared.select.Select.{Select}
use Rattle.query_model.specs.Aggregates.{field_values}
use Rattle.query_model.specs.Exact.{Exact, is_value}
use Rattle.query_model.specs.Records.{Record, value_in}
use Rattle.query_model.specs.Selected.{record_groups, kept}
use Rattle.query_model.specs.Transformations.{transformed}
use Rattle.query_model.specs.Windows.{Span, cells_of, members_at, span_of, window_start}

-- what asks for numbers
abbrev pub is_of_numbers : Agg → Bool
is_of_numbers agg.Count = false
is_of_numbers agg.Sum = true
is_of_numbers agg.Min = false
is_of_numbers agg.Max = false
is_of_numbers agg.First = false
is_of_numbers agg.Last = false
is_of_numbers agg.Spread = true

abbrev pub is_trans_of_numbers : Trans → Bool
is_trans_of_numbers trans.Difference = true
is_trans_of_numbers trans.CumulativeSum = true
is_trans_of_numbers (trans.Elapsed unit) = false

abbrev pub is_truth : Option Value → Bool
is_truth None = false
is_truth (Some (value.Int n)) = false
is_truth (Some (value.Uint n)) = false
is_truth (Some (value.Bool t)) = true

-- a record has a truth in the field
abbrev pub has_truth : List ℕ → List Record → Bool
has_truth field records = list_any (λ this. is_truth (value_in field this)) records

-- an item asks for numbers of a field that has a truth in a record that is kept
abbrev pub asks_numbers_of_truths : Items → List Record → Bool
asks_numbers_of_truths items.Star records = false
asks_numbers_of_truths (items.Raw raw) records = false
asks_numbers_of_truths (items.Agg aggregates) records = list_any (λ item. is_of_numbers item.call && has_truth item.field records) aggregates
asks_numbers_of_truths (items.Trans item) records = is_trans_of_numbers item.call && has_truth item.field records

abbrev pub is_no_value : Option Exact → Bool
is_no_value None = false
is_no_value (Some exact) = not (is_value exact)

-- the items that may have a number that isn't in its kind
abbrev pub with_numbers : List AggItem → List AggItem
with_numbers aggregates = filter (λ item. is_of_numbers item.call) aggregates

-- a sum or a spread of all values of the records, or of those of one window, isn't in its kind
abbrev pub overflows_in : Option (ℤ × ℤ) → List AggItem → List Record → Bool
overflows_in None aggregates records = list_any is_no_value (cells_of (with_numbers aggregates) records)
overflows_in (Some windows) aggregates records =
    list_any (λ this. list_any is_no_value (cells_of (with_numbers aggregates) (members_at windows (window_start windows.0 windows.1 this.time) records))) records

abbrev pub overflows : Select → Items → List Record → Bool
overflows select items.Star records = false
overflows select (items.Raw raw) records = false
overflows select (items.Agg aggregates) records = overflows_in select.windows aggregates records
overflows select (items.Trans item) records = list_any (λ row. not (is_value row.1)) (transformed item.call (field_values item.field records))

abbrev pub is_span_over : Option Span → Bool
is_span_over None = false
is_span_over (Some span) = not (nat_le span.count 1000000)

-- the windows of the records are more than a million
abbrev pub has_too_many : Select → Option (ℤ × ℤ) → Items → List Record → Bool
has_too_many select (Some windows) (items.Agg aggregates) records = is_span_over (span_of select windows aggregates records)
has_too_many select (Some windows) items.Star records = false
has_too_many select (Some windows) (items.Raw raw) records = false
has_too_many select (Some windows) (items.Trans item) records = false
has_too_many select None items records = false

-- windows without a value are rows
abbrev pub lays_out_all : Fill → Bool
lays_out_all fill.Null = true
lays_out_all fill.None = false
lays_out_all fill.Previous = true
lays_out_all (fill.Number n) = true

-- why a SELECT is refused
pub data Refusal : Type 0 where
  bad_argument : Refusal
  sum_range : Refusal
  too_many_windows : Refusal

-- The first of the three that holds, of all groups and whatever the limits would leave out.
abbrev pub select_refusal : Select → Points → Option Refusal
select_refusal select points =
    if asks_numbers_of_truths select.items (kept select points) then Some bad_argument
    else if list_any (λ group. overflows select select.items group.members) (record_groups select points) then Some sum_range
    else if lays_out_all select.fill && list_any (λ group. has_too_many select select.windows select.items group.members) (record_groups select points)
    then Some too_many_windows
    else None
