-- What does a store in memory tell, and what holds of its fields?
use Rattle.std.specs.Prelude.{◌≡◌, ◌⊎◌, ℕ, ◌≤◌, true, IsTrue, List, [], ◌∷◌, length, replicate, Option, Some, None, IsSome, slice_get, if◌then◌else◌}
use Rattle.std.specs.Option.{option_and_then}
use Rattle.tsdb_types.specs.Moments.{IsMoment}
use Rattle.tsdb_types.specs.Values.{kind_of}
use Rattle.tsdb_types.specs.declared.point.Cell.{Cell}
use Rattle.tsdb_types.specs.declared.point.Point.{Point}
use Rattle.tsdb_types.specs.declared.value.Value.{Value}
use Rattle.tsdb_types.specs.declared.value.Kind.{Kind}
use Rattle.point_model.specs.Acceptance.{Conflict, conflict_before, is_same_kind}
use Rattle.point_model.specs.Histories.{nothing, after}
use Rattle.point_model.specs.Measurements.{measurement_head, is_same_field}
use Rattle.point_model.specs.Points.{Points, no_points, value_at}
use Rattle.store_trait.specs.declared.note.EntryNote.{EntryNote}
use Rattle.store_trait.specs.Notes.{entries_of}
use Rattle.store_trait.specs.Slots.{Slots, Samples, slot_at, sample_of, held}
use Rattle.store_trait.specs.Told.{Told, last_number, numbers_from}

-- It began with nothing, is alone, has no limits, and all its entries are its own. A crash leaves nothing of it, so no entry is told as tried.
abbrev pub told_of : ℕ → List EntryNote → ℕ → Told
told_of client notes views = record {
  client = client;
  start = nothing;
  tells = true;
  is_alone = true;
  limits = None;
  history = entries_of client notes;
  own = numbers_from 1 (entries_of client notes);
  series = 0;
  out = replicate views 0;
  tried = [];
}

-- the value of the sample of a field
abbrev pub sample_value : Slots → Samples → List ℕ → List ℕ → Option Value
sample_value slots samples measurement field = option_and_then (λ cell. held (slot_at slots cell)) (sample_of samples measurement field)

-- the slots hold these points
abbrev pub Agrees : Slots → Points → Type 0
Agrees slots points = (cell : Cell) → held (slot_at slots cell) ≡ value_at points cell

-- The slots hold these points, and each field that has one has a sample with a value. No field has two kinds.
pub record Fits (slots : Slots) (samples : Samples) (points : Points) : Type 0 where
  pub agrees : Agrees slots points
  pub placed : (measurement field : List ℕ) (cell : Cell) → sample_of samples measurement field ≡ Some cell
      → (measurement_head cell.series ≡ measurement) × (cell.field ≡ field)
  pub sampled : (cell : Cell) → IsSome (value_at points cell) → IsSome (sample_value slots samples (measurement_head cell.series) cell.field)
  pub timed : (cell : Cell) → IsSome (value_at points cell) → IsMoment cell.time
  pub one_kind : (a b : Cell) (v w : Value) → value_at points a ≡ Some v → value_at points b ≡ Some w → IsTrue (is_same_field a b) → kind_of v ≡ kind_of w

-- What holds of a store's fields.
pub record Holds (client : ℕ) (notes : List EntryNote) (number : ℕ) (slots : Slots) (samples : Samples) : Type 0 where
  pub counted : number ≡ length notes
  pub limit : number ≤ last_number
  pub fits : Fits slots samples (after no_points (entries_of client notes))

-- the point is one of these
abbrev pub IsIn : List Point → Point → Type 0
IsIn points point = (place : ℕ) × (slice_get points place ≡ Some point)

-- a kind that isn't this one
abbrev pub unlike : Kind → Option Value → Option Kind
unlike kind None = None
unlike kind (Some value) = if is_same_kind (kind_of value) kind then None else Some (kind_of value)

-- the first point whose field's sample has another kind
abbrev pub conflict_in : Slots → Samples → List Point → Option Conflict
conflict_in slots samples [] = None
conflict_in slots samples (point ∷ points) =
    conflict_before point (unlike (kind_of point.value) (sample_value slots samples (measurement_head point.cell.series) point.cell.field)) (conflict_in slots samples points)

-- a field and the kind that it is held with, as a conflict
abbrev pub conflict_of : List ℕ × Kind → Conflict
conflict_of found = record { field = found.0; held = found.1 }

-- The samples are as they were, but that the field of the point may have its cell where it had none with a value.
abbrev pub SamplesOne : Slots → Point → Samples → Samples → Type 0
SamplesOne slots point old new =
    (measurement field : List ℕ)
    → (sample_of new measurement field ≡ sample_of old measurement field)
    ⊎ ((sample_value slots old measurement field ≡ None) × (sample_of new measurement field ≡ Some point.cell)
    × (measurement_head point.cell.series ≡ measurement) × (point.cell.field ≡ field))

-- The samples are as they were but for fields without a value, which may have a cell of these points.
abbrev pub Resamples : Slots → List Point → Samples → Samples → Type 0
Resamples slots points old new =
    (measurement field : List ℕ)
    → (sample_of new measurement field ≡ sample_of old measurement field)
    ⊎ ((sample_value slots old measurement field ≡ None) × (point : Point) × IsIn points point × (sample_of new measurement field ≡ Some point.cell)
    × (measurement_head point.cell.series ≡ measurement) × (point.cell.field ≡ field))

-- the field of the point has a sample with a value, or one that is a cell of these points
abbrev pub IsSampled : Slots → List Point → Samples → Point → Type 0
IsSampled slots points samples point =
    IsSome (sample_value slots samples (measurement_head point.cell.series) point.cell.field)
    ⊎ ((other : Point) × IsIn points other × (sample_of samples (measurement_head point.cell.series) point.cell.field ≡ Some other.cell))
