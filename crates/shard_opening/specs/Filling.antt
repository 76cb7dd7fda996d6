-- What do entries that are read make of the points in memory?
use Rattle.std.specs.Prelude.{◌≡◌, ◌⊎◌, ℕ, List, None, Some}
use Rattle.shard_disk.specs.Crash.{Crashes}
use Rattle.shard_disk.specs.Directory.{Directory, HasFile}
use Rattle.shard_disk.specs.declared.damage.Damage.{Damage}
use Rattle.gate_log.specs.Damage.{TellsOf}
use Rattle.gate_log.specs.declared.fault.LogFault.TheVariants.{Damaged}
use Rattle.point_model.specs.Histories.{after, after_entry}
use Rattle.point_model.specs.Points.{Points, no_points}
use Rattle.point_model.specs.declared.entry.Entry.{Entry}
use Rattle.wal_store.specs.Reading.{Gives, Reads, Replaying}
use Rattle.wal_store.specs.Replay.{Replays}
use Rattle.wal_store.specs.Segments.{Segments}
use Rattle.wal_store.specs.declared.replay.Place.{Place}
use Rattle.shard_state.specs.Meaning.{AreTaken, IsTaken}
use Rattle.shard_recover.specs.Damage.{IsMissing, RefusesAt}
use Rattle.shard_opening.specs.declared.filling.Filling.{Filling}

-- The entry is taken, or is the first that may not stand behind the points; or one before it was refused, and nothing is done.
pub record Meets (series : List (List ℕ)) (place : Place) (entry : Entry) (old new : Filling) : Type 0 where
  pub taken : new.refused ≡ None → (old.refused ≡ None) × IsTaken series old.live.points entry × (new.live.points ≡ after_entry old.live.points entry)
  pub refuses : (other : Place) → new.refused ≡ Some other → (old.refused ≡ Some other) ⊎ ((old.refused ≡ None) × (other ≡ place) × (IsTaken series old.live.points entry → ⊥))

-- From the first state on entries were given that may all stand behind the points, and then one, at this place, that may not.
pub record RefusesIn (series : List (List ℕ)) (points : Points) (place : Place) (first : Replaying) : Type 0 where
  pub before : Replaying
  pub behind : Replaying
  pub read : List (List ℕ)
  pub given : List Entry
  pub entry : Entry
  pub reads : Reads first before read given
  pub gives : Gives before behind place entry
  pub taken : AreTaken series points given
  pub refused : IsTaken series (after points given) entry → ⊥

-- These records were read, and the entries past the floor of them taken; or one of them was refused, or one before them.
pub record Fills (series : List (List ℕ)) (first now : Replaying) (read : List (List ℕ)) (old new : Filling) : Type 0 where
  pub given : List Entry
  pub reads : Reads first now read given
  pub taken : new.refused ≡ None → (old.refused ≡ None) × AreTaken series old.live.points given × (new.live.points ≡ after old.live.points given)
  pub refuses : (place : Place) → new.refused ≡ Some place → (old.refused ≡ Some place) ⊎ ((old.refused ≡ None) × RefusesIn series old.live.points place first)

-- The segments were read. Their entries past the floor are in memory, or one of them was refused, at this place.
pub record FillsAll (tells : Type 0) (series : List (List ℕ)) (floor : ℕ) (segments : List ℕ) (wal : Segments) (filling : Filling) (files : Directory) (crashes crashes' : Crashes) : Type 0 where
  pub entries : List Entry
  pub replays : Replays tells floor segments wal entries files crashes crashes'
  pub taken : filling.refused ≡ None → AreTaken series no_points entries × (filling.live.points ≡ after no_points entries)
  pub refuses : tells → (place : Place) → filling.refused ≡ Some place → RefusesAt series floor files segments place.file place.offset

-- the file is missing, or its log is damaged
abbrev pub IsBadFile : Damage → Directory → ℕ → Type 0
IsBadFile damage files file = IsMissing damage files file ⊎ HasFile files file (TellsOf (Damaged damage) file)
