-- What is made known of a batch before it is set?
use Rattle.std.specs.Prelude.{◌≡◌, ◌⊎◌, ℕ, Bool, List, All, Option, Some, None, IsSome, slice_get, if◌then◌else◌}
use Rattle.tsdb_types.specs.Columns.{columns_of}
use Rattle.tsdb_types.specs.declared.column.Column.{Column}
use Rattle.tsdb_types.specs.declared.point.Point.{Point}
use Rattle.point_model.specs.Acceptance.{IsCell, IsWritable}
use Rattle.point_model.specs.Cursors.{Key}
use Rattle.point_model.specs.Measurements.{measurement_head}
use Rattle.point_cache.specs.declared.key_points.KeyRun.{KeyRun}
use Rattle.live_points.specs.Held.{kind_at}
use Rattle.live_points.specs.Known.{Keys, Samples, IsKnown, kind_in, kind_of_column, sample_of}

-- the column is one of these
abbrev pub IsAmong : List Column → Column → Type 0
IsAmong columns column = (place : ℕ) × (slice_get columns place ≡ Some column)

abbrev pub key_of_column : Column → Key
key_of_column column = (column.series, column.field)

-- The keys are as they were, and this one may be among them.
pub record Adds (key : Key) (old new : Keys) : Type 0 where
  pub kept : (other : Key) → IsKnown old other → IsKnown new other
  pub added : (other : Key) → IsKnown new other → IsKnown old other ⊎ (key ≡ other)

-- The keys are as they were, and some of these columns may be among them.
pub record Learns (columns : List Column) (old new : Keys) : Type 0 where
  pub kept : (key : Key) → IsKnown old key → IsKnown new key
  pub added : (key : Key) → IsKnown new key → IsKnown old key ⊎ ((column : Column) × IsAmong columns column × (key_of_column column ≡ key))

-- The samples are as they were, but that the field of the column may have its series where it had none with points.
abbrev pub SamplesOne : List KeyRun → Column → Samples → Samples → Type 0
SamplesOne runs column old new =
    (measurement field : List ℕ)
    → (sample_of new measurement field ≡ sample_of old measurement field)
    ⊎ ((kind_in runs old measurement field ≡ None) × (sample_of new measurement field ≡ Some column.series)
    × (measurement_head column.series ≡ measurement) × (column.field ≡ field))

-- The same, and the column is known where its series was taken.
abbrev pub SamplesKnown : List KeyRun → Column → Keys → Samples → Samples → Type 0
SamplesKnown runs column keys old new =
    (measurement field : List ℕ)
    → (sample_of new measurement field ≡ sample_of old measurement field)
    ⊎ ((kind_in runs old measurement field ≡ None) × (sample_of new measurement field ≡ Some column.series)
    × (measurement_head column.series ≡ measurement) × (column.field ≡ field) × IsKnown keys (key_of_column column))

-- where the column has points it is known, and its field has a sample with points
abbrev pub IsLearnedWhere : List KeyRun → Keys → Samples → Column → Type 0
IsLearnedWhere runs keys samples column =
    IsSome (kind_at runs (key_of_column column)) → IsKnown keys (key_of_column column) × IsSome (kind_of_column runs samples column)

-- The samples are as they were but for fields without points, which may have the series of one of these columns that is known.
abbrev pub Resamples : List KeyRun → List Column → Keys → Samples → Samples → Type 0
Resamples runs columns keys old new =
    (measurement field : List ℕ)
    → (sample_of new measurement field ≡ sample_of old measurement field)
    ⊎ ((kind_in runs old measurement field ≡ None) × (column : Column) × IsAmong columns column × (sample_of new measurement field ≡ Some column.series)
    × (measurement_head column.series ≡ measurement) × (column.field ≡ field) × IsKnown keys (key_of_column column))

-- the field of the column has a sample with points, or one that is a series of these columns
abbrev pub IsSampled : List KeyRun → List Column → Samples → Column → Type 0
IsSampled runs columns samples column =
    IsSome (kind_of_column runs samples column)
    ⊎ ((other : Column) × IsAmong columns other × (sample_of samples (measurement_head column.series) column.field ≡ Some other.series) × (other.field ≡ column.field))

-- All that a batch needs is known: its columns are, and each of their fields has a sample.
pub record IsLearned (runs : List KeyRun) (keys : Keys) (samples : Samples) (points : List Point) : Type 0 where
  pub writable : IsWritable points
  pub cells : All (λ point. IsCell point.cell) points
  pub known : (column : Column) → IsAmong (columns_of points) column → IsKnown keys (key_of_column column)
  pub sampled : (column : Column) → IsAmong (columns_of points) column → IsSampled runs (columns_of points) samples column

-- the room that a cache has counts where all is known of the batch
abbrev pub room_where : Bool → Option (List Point) → Option (List Point)
room_where ready room = if ready then room else None

abbrev pub IsReady : List KeyRun → Keys → Samples → Option (List Point) → Type 0
IsReady runs keys samples room = (points : List Point) → room ≡ Some points → IsLearned runs keys samples points
