-- Which keys are known beside a cache, and how is the kind of a field found by them?
use Rattle.std.specs.Prelude.{◌≡◌, ℕ, ℤ, length, List, [], ◌∷◌, Option, Some, None, IsSome, IsTrue, if◌then◌else◌}
use Rattle.std.specs.BTreeMap.{BTreeMap, get}
use Rattle.std.specs.BTreeSet.{BTreeSet, contains}
use Rattle.std.specs.Option.{option_and_then}
use Rattle.tsdb_types.specs.Columns.{column_of}
use Rattle.tsdb_types.specs.Keys.{IsFirstMark}
use Rattle.tsdb_types.specs.Values.{kind_of}
use Rattle.tsdb_types.specs.declared.column.Column.{Column}
use Rattle.tsdb_types.specs.declared.point.Point.{Point}
use Rattle.tsdb_types.specs.declared.value.Kind.{Kind}
use Rattle.point_model.specs.Acceptance.{Conflict, IsStored, conflict_before, is_same_kind}
use Rattle.point_model.specs.Cursors.{Key, key_cmp}
use Rattle.point_model.specs.Measurements.{measurement_head}
use Rattle.point_cache.specs.declared.key_points.KeyRun.{KeyRun}
use Rattle.point_cache.specs.Cached.{AreRuns, value_at}
use Rattle.store_trait.specs.Slots.{text_cmp}
use Rattle.live_points.specs.Held.{composite, cut, kind_at, points_of}

-- the series and fields that may have points, by the text of the series, then by field
abbrev pub Keys : Type 0
Keys = BTreeSet Key

-- for each field of a measurement a series of it, which has points of the field where any series has
abbrev pub Samples : Type 0
Samples = BTreeMap (List ℕ) (BTreeMap (List ℕ) (List ℕ))

abbrev pub sample_of : Samples → List ℕ → List ℕ → Option (List ℕ)
sample_of samples measurement field = option_and_then (λ fields. get text_cmp fields field) (get text_cmp samples measurement)

-- the kind of a field of a measurement, as its sample has it
abbrev pub kind_in : List KeyRun → Samples → List ℕ → List ℕ → Option Kind
kind_in runs samples measurement field = option_and_then (λ series. kind_at runs (series, field)) (sample_of samples measurement field)

-- the same of a column
abbrev pub kind_of_column : List KeyRun → Samples → Column → Option Kind
kind_of_column runs samples column = kind_in runs samples (measurement_head column.series) column.field

abbrev pub IsKnown : Keys → Key → Type 0
IsKnown keys key = IsTrue (contains key_cmp keys key)

-- Each key with points is known, each known key is cut where it was joined, and each field with points has a sample with points.
pub record Holds (runs : List KeyRun) (keys : Keys) (samples : Samples) : Type 0 where
  pub are_runs : AreRuns runs
  pub stored : IsStored (points_of runs)
  pub known : (bytes : List ℕ) (time : ℤ) → IsSome (value_at runs bytes time) → IsKnown keys (cut bytes) × (composite (cut bytes) ≡ bytes)
  pub marked : (key : Key) → IsKnown keys key → IsFirstMark (composite key) (length key.0)
  pub placed : (measurement field series : List ℕ) → sample_of samples measurement field ≡ Some series → (measurement_head series ≡ measurement) × IsKnown keys (series, field)
  pub sampled : (key : Key) → IsKnown keys key → IsSome (kind_at runs key) → IsSome (kind_in runs samples (measurement_head key.0) key.1)

-- the kind that isn't this one
abbrev pub unlike : Kind → Option Kind → Option Kind
unlike kind None = None
unlike kind (Some held) = if is_same_kind held kind then None else Some held

-- the first point whose field has another kind by its sample
abbrev pub conflict_in : List KeyRun → Samples → List Point → Option Conflict
conflict_in runs samples [] = None
conflict_in runs samples (point ∷ points) =
    conflict_before point (unlike (kind_of point.value) (kind_of_column runs samples (column_of point))) (conflict_in runs samples points)
