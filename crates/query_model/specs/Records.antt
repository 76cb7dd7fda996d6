-- Which records do the points have in a measurement, and what are its fields and its tags?
use Rattle.std.specs.Prelude.{ℕ, ℤ, Bool, ◌&&◌, List, [], ◌∷◌, map, filter, fold, flat_map, Option, if◌then◌else◌}
use Rattle.std.specs.Ordering.{nat_cmp, int_eq}
use Rattle.std.specs.Cmp.Lexicographic.{slice_cmp}
use Rattle.std.specs.BTreeSet.{insert_key}
use Rattle.std.specs.List.{list_any}
use Rattle.std.specs.Map.{lookup}
use Rattle.std.specs.Str.{bytes_eq}
use Rattle.tsdb_types.specs.Series.{is_series_of}
use Rattle.tsdb_types.specs.declared.point.Cell.{Cell}
use Rattle.tsdb_types.specs.declared.value.Value.{Value}
use Rattle.point_model.specs.Points.{Points}
use Rattle.point_model.specs.Tags.{tags_in}

-- the texts, each once, ascending by their bytes
abbrev pub ascending : List (List ℕ) → List (List ℕ)
ascending texts = fold (λ some text. insert_key (slice_cmp nat_cmp) some text) [] texts

-- the text is one of these
abbrev pub is_among : List (List ℕ) → List ℕ → Bool
is_among texts text = list_any (bytes_eq text) texts

-- a series at a time, with the fields that have a value there, ascending
pub record Record : Type 0 where
  pub series : List ℕ
  pub time : ℤ
  pub values : List (List ℕ × Value)

abbrev pub record_of_cell : Cell → Value → Record
record_of_cell cell value = record { series = cell.series; time = cell.time; values = (cell.field, value) ∷ [] }

-- the cell is one of the record
abbrev pub is_cell_of : Record → Cell → Bool
is_cell_of this cell = int_eq this.time cell.time && bytes_eq this.series cell.series

-- The value stands before those of the first record where its cell is one of it, and begins a record of its own elsewhere.
-- The cells of points stand in order, so those of one record stand together.
abbrev pub onto_records : Cell → Value → List Record → List Record
onto_records cell value [] = record_of_cell cell value ∷ []
onto_records cell value (this ∷ records) =
    if is_cell_of this cell then record { series = this.series; time = this.time; values = (cell.field, value) ∷ this.values } ∷ records
    else record_of_cell cell value ∷ this ∷ records

-- the points of the measurement's series
abbrev pub points_of_measurement : List ℕ → Points → Points
points_of_measurement measurement points = filter (λ point. is_series_of measurement point.0.series) points

abbrev pub grouped : Points → List Record
grouped [] = []
grouped (point ∷ points) = onto_records point.0 point.1 (grouped points)

-- the records of a measurement, by time and then by the text of their series
abbrev pub records_of : List ℕ → Points → List Record
records_of measurement points = grouped (points_of_measurement measurement points)

-- the value of a field in a record
abbrev pub value_in : List ℕ → Record → Option Value
value_in field this = lookup (bytes_eq field) this.values

-- the fields of a measurement, ascending
abbrev pub fields_of_measurement : List ℕ → Points → List (List ℕ)
fields_of_measurement measurement points = ascending (map (λ point. point.0.field) (points_of_measurement measurement points))

-- a name is a field of a measurement where the points have a cell of it there; else it is a tag
abbrev pub is_field : List ℕ → Points → List ℕ → Bool
is_field measurement points name = list_any (λ point. bytes_eq name point.0.field) (points_of_measurement measurement points)

-- the tag keys of a measurement's series, ascending
abbrev pub tag_keys_of : List ℕ → Points → List (List ℕ)
tag_keys_of measurement points =
    ascending (flat_map (λ point. map (λ tag. tag.key) (tags_in point.0.series)) (points_of_measurement measurement points))
