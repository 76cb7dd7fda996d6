-- Which table does a group give?
use Rattle.std.specs.Prelude.{ℕ, ℤ, pos, Bool, true, false, ◌&&◌, List, [], ◌∷◌, map, filter, zip, Option, Some, None, unwrap_or, option_map, if◌then◌else◌}
use Rattle.std.specs.List.{list_any}
use Rattle.std.specs.Option.{is_some}
use Rattle.tsdb_types.specs.declared.value.Value.{Value}
use Rattle.point_model.specs.Points.{Points}
use Rattle.point_model.specs.Tags.{tag_text}
use Rattle.query_model.specs.declared.items.AggItem.{AggItem}
use Rattle.query_model.specs.declared.items.Items.{Items}
use Rattle.query_model.specs.declared.items.Items.TheVariants as items
use Rattle.query_model.specs.declared.select.Select.{Select}
use Rattle.query_model.specs.declared.tables.Row.{Row}
use Rattle.query_model.specs.declared.tables.Shown.{Shown}
use Rattle.query_model.specs.declared.tables.Shown.TheVariants as shown
use Rattle.query_model.specs.declared.tables.Table.{Table}
use Rattle.query_model.specs.declared.tables.TagText.{TagText}
use Rattle.query_model.specs.Aggregates.{chosen, field_values}
use Rattle.query_model.specs.Columns.{column_names, shown_names}
use Rattle.query_model.specs.Exact.{Exact, value_of_exact}
use Rattle.query_model.specs.Records.{Record, is_field, value_in}
use Rattle.query_model.specs.Selected.{RecordGroup, grouping_keys, record_groups}
use Rattle.query_model.specs.Transformations.{ExactRow, transformed}
use Rattle.query_model.specs.Windows.{AggRow, Span, cells_of, filled, has_item_value, of_nothing, cells_or, agg_rows_at, span_of, starts_of}

-- a field that a record lacks is absent
abbrev pub shown_field : Option Value → Shown
shown_field None = shown.Absent
shown_field (Some value) = shown.Value value

-- so is a tag whose value is empty
abbrev pub shown_tag : List ℕ → Shown
shown_tag [] = shown.Absent
shown_tag (byte ∷ text) = shown.Tag (byte ∷ text)

abbrev pub plain_cell : (List ℕ → Bool) → Record → List ℕ → Shown
plain_cell is_field this name = if is_field name then shown_field (value_in name this) else shown_tag (tag_text name this.series)

abbrev pub plain_row : (List ℕ → Bool) → List (List ℕ) → Record → Row
plain_row is_field names this = record { time = this.time; cells = map (plain_cell is_field this) names }

-- the record has a value of one of the names that are fields
abbrev pub has_field : (List ℕ → Bool) → List (List ℕ) → Record → Bool
has_field is_field names this = list_any (λ name. is_field name && is_some (value_in name this)) names

-- each record with a field that is selected is a row
abbrev pub plain_rows : (List ℕ → Bool) → List (List ℕ) → List Record → List Row
plain_rows is_field names records = map (plain_row is_field names) (filter (has_field is_field names) records)

-- the time of the value that the only item chooses, where it is one that chooses
abbrev pub chosen_time : List AggItem → List Record → Option ℤ
chosen_time [] records = None
chosen_time (item ∷ []) records = option_map (λ row. row.0) (chosen item.call (field_values item.field records))
chosen_time (item ∷ other ∷ items) records = None

-- at the time of the chosen value, else at the lower bound where one is given, else at 0
abbrev pub row_of_all : Select → List AggItem → List Record → AggRow
row_of_all select items records =
    record {
      time = unwrap_or (chosen_time items records) (unwrap_or select.lower (pos 0));
      cells = cells_or (cells_of items records) (map (λ item. of_nothing item.call) items);
    }

-- without windows there is one row, where an item has a value
abbrev pub one_row : Select → List AggItem → List Record → List AggRow
one_row select items records = if list_any (has_item_value items) records then row_of_all select items records ∷ [] else []

abbrev pub starts_in : ℤ → Option Span → List ℤ
starts_in length None = []
starts_in length (Some span) = starts_of length span

-- the rows of the group's windows, filled; none where no item has a value in the group
abbrev pub window_rows : Select → (ℤ × ℤ) → List AggItem → List Record → List AggRow
window_rows select windows items records =
    filled select.fill items (agg_rows_at windows items records (starts_in windows.0 (span_of select windows items records)))

abbrev pub agg_rows : Select → Option (ℤ × ℤ) → List AggItem → List Record → List AggRow
agg_rows select None items records = one_row select items records
agg_rows select (Some windows) items records = window_rows select windows items records

abbrev pub shown_exact : Option Exact → Shown
shown_exact None = shown.Absent
shown_exact (Some exact) = shown.Value (value_of_exact exact)

abbrev pub shown_agg : AggRow → Row
shown_agg row = record { time = row.time; cells = map shown_exact row.cells }

abbrev pub shown_trans : ExactRow → Row
shown_trans row = record { time = row.0; cells = shown.Value (value_of_exact row.1) ∷ [] }

-- the rows of a group, ascending by time
abbrev pub rows_of_group : Select → Points → Items → List Record → List Row
rows_of_group select points (items.Agg aggregates) records = map shown_agg (agg_rows select select.windows aggregates records)
rows_of_group select points (items.Trans item) records = map shown_trans (transformed item.call (field_values item.field records))
rows_of_group select points items.Star records =
    plain_rows (is_field select.measurement points) (shown_names select points items.Star) records
rows_of_group select points (items.Raw raw) records =
    plain_rows (is_field select.measurement points) (shown_names select points (items.Raw raw)) records

abbrev pub tag_with : (List ℕ × List ℕ) → TagText
tag_with tag = record { key = tag.0; value = tag.1 }

abbrev pub table_of : Select → Points → RecordGroup → Table
table_of select points group =
    record {
      measurement = select.measurement;
      tags = map tag_with (zip (grouping_keys select points) group.texts);
      columns = column_names select points;
      rows = rows_of_group select points select.items group.members;
    }

-- a group without a row gives no table
abbrev pub is_some_list : List Row → Bool
is_some_list [] = false
is_some_list (row ∷ rows) = true

abbrev pub has_row : Table → Bool
has_row table = is_some_list table.rows

abbrev pub all_tables : Select → Points → List Table
all_tables select points = filter has_row (map (table_of select points) (record_groups select points))
