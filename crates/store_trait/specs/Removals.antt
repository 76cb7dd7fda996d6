-- What does a deletion take away of a store in memory, and which samples are left?
use Rattle.std.specs.Prelude.{◌≡◌, ℕ, ℤ, int_le, Bool, false, not, ◌&&◌, is_some, IsTrue, IsSome, List, [], ◌∷◌, Option, Some, None, if◌then◌else◌}
use Rattle.std.specs.BTreeMap.{get, is_at, IsOrdered}
use Rattle.std.specs.Option.{option_or, option_map}
use Rattle.tsdb_types.specs.Names.{IsName}
use Rattle.tsdb_types.specs.Series.{is_series_of, measurement_text}
use Rattle.tsdb_types.specs.declared.point.Cell.{Cell}
use Rattle.tsdb_types.specs.declared.value.Value.{Value}
use Rattle.point_model.specs.declared.deletion.Deletion.{Deletion}
use Rattle.point_model.specs.Conditions.{meets}
use Rattle.point_model.specs.Deletions.{is_deleted}
use Rattle.point_model.specs.Measurements.{measurement_head}
use Rattle.store_trait.specs.declared.removal.Removal.{Removal}
use Rattle.store_trait.specs.Gathered.{AreOrderedRows}
use Rattle.store_trait.specs.Slots.{Rows, Fields, Slots, slot_at, held, text_cmp}

-- the first that one of these has to offer
abbrev pub first_offered : {X Y : Type 0} → (X → Option Y) → List X → Option Y
first_offered offer [] = None
first_offered offer (x ∷ xs) = option_or (offer x) (first_offered offer xs)

-- the time is one of those between the bounds
abbrev pub is_within : ℤ → ℤ → ℤ → Bool
is_within from to time = int_le from time && int_le time to

-- the deletion meets the series
abbrev pub is_met : Deletion → List ℕ → Bool
is_met deletion series = is_series_of deletion.measurement series && meets deletion.tags series

-- a row keeps its value, where it is told whether the deletion meets its series
abbrev pub is_kept : Deletion → Bool → ℤ → Option Value → Bool
is_kept deletion met time slot = is_some slot && not (met && is_within deletion.from deletion.to time)

abbrev pub time_kept : Deletion → Bool → ℤ × Option Value → Option ℤ
time_kept deletion met row = if is_kept deletion met row.0 row.1 then Some row.0 else None

-- the cell of the first row of a column that keeps its value, where the column is of this field
abbrev pub cell_kept : Deletion → Bool → List ℕ → List ℕ → List ℕ × Rows → Option Cell
cell_kept deletion met series field column =
    if is_at (text_cmp column.0) field
    then option_map (λ time. record { time = time; series = series; field = column.0 }) (first_offered (time_kept deletion met) column.1.entries)
    else None

-- the first such cell of a series, where it is of the measurement
abbrev pub series_kept : Deletion → List ℕ → List ℕ × Fields → Option Cell
series_kept deletion field entry =
    if is_series_of deletion.measurement entry.0 then first_offered (cell_kept deletion (meets deletion.tags entry.0) entry.0 field) entry.1.entries else None

-- the fields and rows of each series of the measurement are in order
abbrev pub AreOrderedOf : Deletion → List (List ℕ × Fields) → Type 0
AreOrderedOf deletion [] = Unit {0}
AreOrderedOf deletion (entry ∷ entries) =
    (IsTrue (is_series_of deletion.measurement entry.0) → IsOrdered text_cmp entry.1 × AreOrderedRows entry.1.entries) × AreOrderedOf deletion entries

-- a cell has a value, and the deletion leaves it
abbrev pub IsSpared : Deletion → Slots → Cell → Type 0
IsSpared deletion slots cell = IsSome (held (slot_at slots cell)) × (is_deleted deletion cell ≡ false)

-- The samples are those that the fields of the deletion's measurement have once its points are gone.
pub record IsRemovalOf (deletion : Deletion) (slots : Slots) (removal : Removal) : Type 0 where
  pub named : IsName deletion.measurement
  pub heading : removal.heading ≡ measurement_text deletion.measurement
  pub placed : (field : List ℕ) (cell : Cell) → get text_cmp removal.samples field ≡ Some cell
      → (measurement_head cell.series ≡ removal.heading) × (cell.field ≡ field) × IsSpared deletion slots cell
  pub sampled : (cell : Cell) → IsSpared deletion slots cell → measurement_head cell.series ≡ removal.heading → IsSome (get text_cmp removal.samples cell.field)
