-- When is a batch refused by a store?
use Rattle.std.specs.Prelude.{◌≡◌, ◌⊎◌, ◌↔◌, ℕ, ◌+◌, ◌<◌, ◌≤◌, IsTrue, List, length, Any, Contains, Some, ⊤, IfSome, IsSomeAnd, Result, IsErrOf}
use Rattle.std.specs.List.{IsDistinct}
use Rattle.std.specs.Str.{bytes_eq}
use Rattle.shard_disk.specs.Health.{Health, Failed}
use Rattle.tsdb_types.specs.declared.point.Point.{Point}
use Rattle.point_model.specs.declared.entry.Entry.{Entry}
use Rattle.point_model.specs.declared.entry.Entry.TheVariants.{Write, Delete}
use Rattle.point_model.specs.Acceptance.{Conflict, conflict, IsAccepted}
use Rattle.point_model.specs.Points.{Points}
use Rattle.store_trait.specs.declared.fault.WriteFault.{WriteFault}
use Rattle.store_trait.specs.declared.fault.WriteFault.TheVariants as fault
use Rattle.store_trait.specs.Told.{Told, Limits, state_now, last_number, points_written}

abbrev pub HasSeries : List Point → List ℕ → Type 0
HasSeries points series = Any (λ point. point.cell.series ≡ series) points

abbrev pub WritesSeries : List ℕ → Entry → Type 0
WritesSeries series (Write client points) = HasSeries points series
WritesSeries series (Delete client deletion) = ⊥

-- The series of the batch that neither the start nor the history has, each once.
pub record AreNew (points : List Point) (limits : Limits) (history : List Entry) (series : List (List ℕ)) : Type 0 where
  pub distinct : IsDistinct bytes_eq series
  pub exact : (text : List ℕ) → Contains series text
      ↔ (HasSeries points text × (¬ (Contains limits.series text)) × (¬ (Any (WritesSeries text) history)))

-- The points of some store are in this conflict with the batch: a point of it has that field, and a value of another kind
-- than the one named. Where the store tells its points, they are these.
pub record Conflicts (points : List Point) (told : Told) (found : Conflict) : Type 0 where
  pub stored : Points
  pub are_told : IsTrue told.tells → stored ≡ (state_now told).points
  pub in_conflict : conflict stored points ≡ Some found

-- neither a conflict nor the last number refuses the batch
pub record IsOpen (points : List Point) (told : Told) : Type 0 where
  pub accepted : IsTrue told.tells → IsAccepted (state_now told).points points
  pub number : (state_now told).number < last_number

-- So many series are held, behind these entries and not above this count, that the batch's new ones pass the limit.
pub record PassesSeries (points : List Point) (held : ℕ) (most_held : ℕ) (history : List Entry) (limits : Limits) : Type 0 where
  pub new : List (List ℕ)
  pub are_new : AreNew points limits history new
  pub are_held : held ≤ most_held
  pub passes : limits.most_series < held + length new

-- The series that the start or the history has, each once.
pub record AreKnown (limits : Limits) (history : List Entry) (series : List (List ℕ)) : Type 0 where
  pub distinct : IsDistinct bytes_eq series
  pub exact : (text : List ℕ) → Contains series text ↔ (Contains limits.series text ⊎ Any (WritesSeries text) history)

-- So many series are held, no fewer than start and history have, that the batch's new ones are within the limit.
pub record FitsSeries (points : List Point) (told : Told) (limits : Limits) : Type 0 where
  pub held : ℕ
  pub known : List (List ℕ)
  pub new : List (List ℕ)
  pub are_known : AreKnown limits told.history known
  pub are_new : AreNew points limits told.history new
  pub no_fewer : length known ≤ held
  pub are_held : held ≤ told.series
  pub fits : held + length new ≤ limits.most_series

-- So many points are cached behind these entries that the batch's pass the limit.
pub record PassesCache (points : List Point) (held : ℕ) (history : List Entry) (limits : Limits) : Type 0 where
  pub are_held : held ≤ limits.cached + points_written history
  pub passes : limits.most_cached < held + length points

-- no limit on points in memory refuses the batch, so few as they may be
abbrev pub FitsCache : List Point → Limits → Type 0
FitsCache points limits = length points ≤ limits.most_cached

-- Why a batch was refused, by what the store tells afterwards and by its health before and after. A refusal that is
-- listed earlier comes first; want of memory may come anywhere.
abbrev pub WriteHasCause : List Point → Told → Health → Health → WriteFault → Type 0
WriteHasCause points told old new (fault.TypeConflict field held number) =
    Conflicts points told (record { field = field; held = held }) × (number ≡ (state_now told).number)
WriteHasCause points told old new fault.HistoryFull =
    (IsTrue told.tells → IsAccepted (state_now told).points points) × ((state_now told).number ≡ last_number)
WriteHasCause points told old new (fault.SeriesFull held) =
    IsOpen points told × IsSomeAnd told.limits (PassesSeries points held told.series told.history)
WriteHasCause points told old new (fault.CacheFull held) =
    IsOpen points told × IfSome told.limits (FitsSeries points told) × IsSomeAnd told.limits (PassesCache points held told.history)
WriteHasCause points told old new fault.Memory = ⊤
WriteHasCause points told old new fault.Fault =
    Failed old new × IsOpen points told × IfSome told.limits (FitsSeries points told) × IfSome told.limits (FitsCache points)

-- the entry may have been tried: a fault or want of memory refused it
abbrev pub MayBeTried : WriteFault → Type 0
MayBeTried (fault.TypeConflict field held number) = ⊥
MayBeTried fault.HistoryFull = ⊥
MayBeTried (fault.SeriesFull held) = ⊥
MayBeTried (fault.CacheFull held) = ⊥
MayBeTried fault.Memory = ⊤
MayBeTried fault.Fault = ⊤

-- no answer but a fault changes the health
abbrev pub IsQuiet : {T : Type 0} → Result T WriteFault → Health → Health → Type 0
IsQuiet result old new = ¬ (IsErrOf result fault.Fault) → new ≡ old
