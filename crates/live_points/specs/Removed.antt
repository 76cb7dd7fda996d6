-- What does a deletion take away of points in memory, and which samples are left?
use Rattle.std.specs.Prelude.{◌≡◌, ◌≤◌, ◌⊎◌, ℕ, ℤ, Bool, true, ◌&&◌, is_some, length, vec_capacity, List, [], ◌∷◌, Option, Some, None, IsSome, slice_get, if◌then◌else◌}
use Rattle.std.specs.BTreeMap.{get, is_at}
use Rattle.std.specs.List.{AllByRecursion}
use Rattle.std.specs.declared.alloc.Global.{Global}
use Rattle.std.specs.declared.vec.Vec.{Vec}
use Rattle.std.specs.Option.{option_or}
use Rattle.tsdb_types.specs.Keys.{IsFirstMark}
use Rattle.tsdb_types.specs.Names.{IsName}
use Rattle.tsdb_types.specs.Series.{is_series_of, measurement_text}
use Rattle.tsdb_types.specs.declared.point.Cell.{Cell}
use Rattle.tsdb_types.specs.declared.value.Value.{Value}
use Rattle.point_model.specs.declared.deletion.Deletion.{Deletion}
use Rattle.point_model.specs.Conditions.{meets}
use Rattle.point_model.specs.Cursors.{Key, cell_at}
use Rattle.point_model.specs.Deletions.{without}
use Rattle.point_model.specs.Measurements.{measurement_head}
use Rattle.point_model.specs.Points as model
use Rattle.point_model.specs.Points.{Points}
use Rattle.point_model.specs.Rows.{Row}
use Rattle.point_cache.specs.declared.key_points.KeyRun.{KeyRun}
use Rattle.point_cache.specs.Cached.{points_at, rows_outside, value_at}
use Rattle.point_cache.specs.Calls.{value_without}
use Rattle.store_trait.specs.Slots.{text_cmp}
use Rattle.live_points.specs.Held.{composite, first_kind}
use Rattle.live_points.specs.Known.{IsKnown, Keys}
use Rattle.live_points.specs.declared.removal.Removal.{Removal}

-- the deletion meets the series of the key
abbrev pub is_met : Deletion → Key → Bool
is_met deletion key = is_series_of deletion.measurement key.0 && meets deletion.tags key.0

-- the rows that it leaves of a key of its measurement
abbrev pub rows_left : List KeyRun → Deletion → Key → List Row
rows_left runs deletion key =
    if meets deletion.tags key.0 then rows_outside deletion.from deletion.to (points_at runs (composite key)) else points_at runs (composite key)

-- the key is of its measurement, and has rows left
abbrev pub is_left : List KeyRun → Deletion → Key → Bool
is_left runs deletion key = is_series_of deletion.measurement key.0 && is_some (first_kind (rows_left runs deletion key))

-- the series of the key, where its field is this one and it has rows left
abbrev pub offered : List KeyRun → Deletion → List ℕ → Key → Option (List ℕ)
offered runs deletion field key = if is_left runs deletion key && is_at (text_cmp key.1) field then Some key.0 else None

-- the first series that has rows of the field left
abbrev pub first_left : List KeyRun → Deletion → List ℕ → List Key → Option (List ℕ)
first_left runs deletion field [] = None
first_left runs deletion field (key ∷ keys) = option_or (offered runs deletion field key) (first_left runs deletion field keys)

-- the value at a key and a time once these keys lost their points from one time to another, by the value before
abbrev pub value_spared : List Key → ℤ → ℤ → List ℕ → ℤ → Option Value → Option Value
value_spared [] from to bytes time before = before
value_spared (key ∷ keys) from to bytes time before = value_spared keys from to bytes time (value_without (composite key) from to bytes time before)

-- the key is one of these
abbrev pub IsOneOf : List Key → Key → Type 0
IsOneOf keys key = (place : ℕ) × (slice_get keys place ≡ Some key)

-- No key is known that wasn't, and of these keys those that are left without points may be known no more.
pub record ForgetsKeys (runs : List KeyRun) (keys : List Key) (old new : Keys) : Type 0 where
  pub only : (key : Key) → IsKnown new key → IsKnown old key
  pub kept : (key : Key) → IsKnown old key → IsKnown new key ⊎ (IsOneOf keys key × ((time : ℤ) → value_at runs (composite key) time ≡ None))

-- the deletion meets the key, which is cut where it was joined
pub record IsMetKey (deletion : Deletion) (key : Key) : Type 0 where
  pub met : is_met deletion key ≡ true
  pub marked : IsFirstMark (composite key) (length key.0)

-- the buffer has the room to write each of these keys
abbrev pub HaveRoom : Vec ℕ Global → List Key → Type 0
HaveRoom buffer keys = AllByRecursion (λ key. length (composite key) ≤ vec_capacity buffer) keys

-- a cell has a value among the points that the deletion leaves
abbrev pub IsSpared : Points → Deletion → Cell → Type 0
IsSpared points deletion cell = IsSome (model.value_at (without points deletion) cell)

-- The removal is made of this deletion for these points: its keys are met, each met key with points is one of them, and there is room to
-- write each; its samples are those of the fields of the measurement that have points left, each a series with such.
pub record IsRemovalOf (deletion : Deletion) (points : Points) (removal : Removal) : Type 0 where
  pub named : IsName deletion.measurement
  pub heading : removal.heading ≡ measurement_text deletion.measurement
  pub met : AllByRecursion (IsMetKey deletion) removal.keys.items
  pub all : (cell : Cell) → IsSome (model.value_at points cell) → is_met deletion (cell.series, cell.field) ≡ true → IsOneOf removal.keys.items (cell.series, cell.field)
  pub room : HaveRoom removal.buffer removal.keys.items
  pub placed : (field series : List ℕ) → get text_cmp removal.samples field ≡ Some series
      → (measurement_head series ≡ removal.heading) × (time : ℤ) × IsSpared points deletion (cell_at (series, field) time)
  pub sampled : (cell : Cell) → IsSpared points deletion cell → measurement_head cell.series ≡ removal.heading → IsSome (get text_cmp removal.samples cell.field)
