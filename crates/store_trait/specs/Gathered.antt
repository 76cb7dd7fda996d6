-- What does a view take of the slots and samples of a store in memory?
use Rattle.std.specs.Prelude.{ℕ, ℤ, int_le, Bool, false, ◌&&◌, ◌||◌, is_some, IsTrue, List, [], ◌∷◌, ◌++◌, Option, Some, None, if◌then◌else◌}
use Rattle.std.specs.BTreeMap.{BTreeMap, get, IsOrdered}
use Rattle.std.specs.Ordering.{int_cmp}
use Rattle.std.specs.Option.{option_map_or}
use Rattle.tsdb_types.specs.Series.{is_series_of, IsSeriesText}
use Rattle.tsdb_types.specs.Values.{kind_of}
use Rattle.tsdb_types.specs.declared.point.Cell.{Cell}
use Rattle.tsdb_types.specs.declared.value.Value.{Value}
use Rattle.tsdb_types.specs.declared.value.Kind.{Kind}
use Rattle.point_model.specs.declared.need.Need.{Need}
use Rattle.point_model.specs.Conditions.{True, meets}
use Rattle.point_model.specs.Cursors.{Key, in_order}
use Rattle.point_model.specs.Rows.{Row}
use Rattle.store_trait.specs.Slots.{Rows, Fields, Slots, Samples, slot_at, held, text_cmp}

-- some slot has a value
abbrev pub has_value : List (ℤ × Option Value) → Bool
has_value [] = false
has_value (entry ∷ entries) = is_some entry.1 || has_value entries

abbrev pub row_before : ℤ → ℤ → ℤ → Option Value → List Row → List Row
row_before from to time None rows = rows
row_before from to time (Some value) rows = if int_le from time && int_le time to then (time, value) ∷ rows else rows

-- the values between the bounds, by time
abbrev pub rows_set : ℤ → ℤ → List (ℤ × Option Value) → List Row
rows_set from to [] = []
rows_set from to (entry ∷ entries) = row_before from to entry.0 entry.1 (rows_set from to entries)

-- in the order that the need asks for
abbrev pub rows_taken : Need → Rows → List Row
rows_taken need rows = in_order need.descending (rows_set need.from need.to rows.entries)

-- the fields of a series that have a value, each with its rows
abbrev pub fields_listed : List ℕ → List (List ℕ × Rows) → List (Key × Rows)
fields_listed series [] = []
fields_listed series (entry ∷ entries) =
    if has_value entry.1.entries then ((series, entry.0), entry.1) ∷ fields_listed series entries else fields_listed series entries

-- the same of all series that the need asks for
abbrev pub listed : Need → List (List ℕ × Fields) → List (Key × Rows)
listed need [] = []
listed need (entry ∷ entries) =
    if is_series_of need.measurement entry.0 && meets need.tags entry.0 then fields_listed entry.0 entry.1.entries ++ listed need entries else listed need entries

-- the need of all series of its measurement
abbrev pub whole : Need → Need
whole need = record need { tags = True }

-- the texts of the series that the need asks for are keys of series
abbrev pub AreSeriesTexts : Need → List (List ℕ × Fields) → Type 0
AreSeriesTexts need [] = Unit {0}
AreSeriesTexts need (entry ∷ entries) =
    (IsTrue (is_series_of need.measurement entry.0 && meets need.tags entry.0) → IsSeriesText entry.0) × AreSeriesTexts need entries

-- the slots of each field stand by time
abbrev pub AreOrderedRows : List (List ℕ × Rows) → Type 0
AreOrderedRows [] = Unit {0}
AreOrderedRows (entry ∷ entries) = IsOrdered int_cmp entry.1 × AreOrderedRows entries

-- the same of the series that the need asks for, and their fields stand by name
abbrev pub AreOrdered : Need → List (List ℕ × Fields) → Type 0
AreOrdered need [] = Unit {0}
AreOrdered need (entry ∷ entries) =
    (IsTrue (is_series_of need.measurement entry.0 && meets need.tags entry.0) → IsOrdered text_cmp entry.1 × AreOrderedRows entry.1.entries) × AreOrdered need entries

abbrev pub kind_before : List ℕ → Option Value → List (List ℕ × Kind) → List (List ℕ × Kind)
kind_before field None kinds = kinds
kind_before field (Some value) kinds = (field, kind_of value) ∷ kinds

-- the fields whose samples have a value, with their kinds
abbrev pub kinds_listed : Slots → List (List ℕ × Cell) → List (List ℕ × Kind)
kinds_listed slots [] = []
kinds_listed slots (entry ∷ entries) = kind_before entry.0 (held (slot_at slots entry.1)) (kinds_listed slots entries)

-- the same of a measurement
abbrev pub kinds_of : Slots → Samples → List ℕ → List (List ℕ × Kind)
kinds_of slots samples measurement = option_map_or (λ (fields : BTreeMap (List ℕ) Cell). kinds_listed slots fields.entries) (get text_cmp samples measurement) []
