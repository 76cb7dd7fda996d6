-- What does a write make of an engine, and why is one refused?
use Rattle.std.specs.Prelude.{◌≡◌, ◌⊎◌, ℕ, ◌+◌, ◌<◌, ◌≤◌, List, [], ◌∷◌, ◌++◌, length, Option, None, Some, IsTrue, IsErrOf, ⊤, Result, IfOk, IfErr, OnOk, OnErr}
use Rattle.shard_disk.specs.Health.{Health, Failed}
use Rattle.shard_disk.specs.declared.disk.Disk.{Ghosts}
use Rattle.tsdb_types.specs.declared.point.Point.{Point}
use Rattle.point_model.specs.Acceptance.{IsAccepted, conflict}
use Rattle.point_model.specs.Histories.{State, state_after}
use Rattle.point_model.specs.declared.entry.Entry.{Entry}
use Rattle.point_model.specs.declared.entry.Entry.TheVariants.{Write}
use Rattle.store_trait.specs.declared.fault.WriteFault.{WriteFault}
use Rattle.store_trait.specs.declared.fault.WriteFault.TheVariants as fault
use Rattle.shard_state.specs.declared.prepare.Prepared.{Prepared}
use Rattle.shard_state.specs.Engine.{IsLeftEntry, IsRecordOf, MayEnter, series_in}
use Rattle.shard_state.specs.History.{Attempt, Made}
use Rattle.shard_state.specs.Meaning.{AreHeld}
use Rattle.wal_store.specs.Segments.{last_number}
use Rattle.shard_steps.specs.declared.shard.Shard.{Shard}
use Rattle.shard_steps.specs.Series.{AreUnheld}
use Rattle.shard_steps.specs.Shards.{Runs, state_of}

-- What no write changes, and what it may only add to.
pub record Keeps {D : Type 0} (old new : Shard D) : Type 0 where
  pub settings : new.settings ≡ old.settings
  pub views : new.views ≡ old.views
  pub more : List (List ℕ)
  pub series : new.logs.series.keys ≡ old.logs.series.keys ++ more

-- What a refusal behind this number leaves of those that were refused and of the one in doubt: either a log was touched, and the entry is
-- among the refused and after a fault maybe in doubt; or nothing has changed.
pub data IsTried (fault : Type 0) (number : ℕ) (entry : Entry) (refused : List Attempt) (doubt : Option Entry) (tried : List Attempt) (left : Option Entry) : Type 0 where
  Untouched : tried ≡ refused → left ≡ doubt → IsTried fault number entry refused doubt tried left
  Touched : tried ≡ refused ++ (number, entry) ∷ [] → IsLeftEntry fault doubt entry left → IsTried fault number entry refused doubt tried left

-- neither a conflict nor the last number refuses the batch
pub record IsOpen {D : Type 0} (points : List Point) (shard : Shard D) : Type 0 where
  pub accepted : IsAccepted shard.live.points points
  pub number : shard.logs.number < last_number

-- the series of the batch that aren't held would pass the limit on series
pub record PassesSeries {D : Type 0} (points : List Point) (shard : Shard D) : Type 0 where
  pub new : List (List ℕ)
  pub are : AreUnheld shard.logs.series.keys points new
  pub passes : shard.settings.series < length shard.logs.series.keys + length new

-- they are within it
pub record FitsSeries {D : Type 0} (points : List Point) (shard : Shard D) : Type 0 where
  pub new : List (List ℕ)
  pub are : AreUnheld shard.logs.series.keys points new
  pub fits : length shard.logs.series.keys + length new ≤ shard.settings.series

-- The batch is one entry more, of this number: the points accepted it, its series are held, and no limit is
-- passed.
pub record Adds {D : Type 0} (client : ℕ) (points : List Point) (number : ℕ) (old new : Shard D) : Type 0 where
  pub accepted : IsAccepted old.live.points points
  pub state : state_of new ≡ state_after (state_of old) (Write client points ∷ [])
  pub given : number ≡ new.logs.number
  pub limit : number ≤ last_number
  pub held : AreHeld new.logs.series.keys points
  pub fits : FitsSeries points old
  pub fits_cache : length old.live.points + length points ≤ old.settings.cache_points

-- the batch was refused before anything was done
abbrev pub IsDecided : WriteFault → Type 0
IsDecided (fault.TypeConflict field held number) = Unit {0}
IsDecided fault.HistoryFull = Unit {0}
IsDecided (fault.SeriesFull held) = Unit {0}
IsDecided (fault.CacheFull held) = Unit {0}
IsDecided fault.Memory = ⊥
IsDecided fault.Fault = ⊥

-- the series are those that were held, or these and the new ones of the batch
abbrev pub AddsSeries : List Point → List (List ℕ) → List (List ℕ) → Type 0
AddsSeries points old new = (new ≡ old) ⊎ ((more : List (List ℕ)) × AreUnheld old points more × (new ≡ old ++ more))

-- the step of a history: the entry becomes its last and none is in doubt, or a refusal leaves its entries. A
-- batch that a conflict, the last number or a limit refuses changes nothing, and no other series than its own are added.
pub record GoesOn {D R W : Type 0} (g : Ghosts D R W) (client : ℕ) (points : List Point) (old new : Shard D) (result : Result ℕ WriteFault) : Type 0 where
  pub ok : OnOk result (IsTrue g.tells → (start : State) (since : ℕ) (made : List Made) (refused : List Attempt) (doubt : Option Entry) → Runs g old start since made refused doubt
      → Runs g new start since (made ++ record { entry = Write client points; moment = (g.crashes new.logs.disk).moment } ∷ []) refused None)
  pub stays : OnErr result (IsTrue g.tells → (start : State) (since : ℕ) (made : List Made) (refused : List Attempt) (doubt : Option Entry) → Runs g old start since made refused doubt
      → (tried : List Attempt) × (left : Option Entry) × IsTried (IsErrOf result fault.Fault) old.logs.number (Write client points) refused doubt tried left × Runs g new start since made tried left)
  pub untouched : IfErr result (λ e. IsDecided e → new ≡ old)
  pub series : AddsSeries points old.logs.series.keys new.logs.series.keys
  pub handed_out : g.handed_out new.logs.disk ≡ g.handed_out old.logs.disk

-- Why a batch was refused, by the engine as it was before: what is listed first comes first. A fault raised the disk's count, and
-- want of memory may come anywhere.
abbrev pub HasCause : {D : Type 0} → List Point → Shard D → Health → Health → WriteFault → Type 0
HasCause points shard old new (fault.TypeConflict field held number) =
    (conflict shard.live.points points ≡ Some (record { field = field; held = held })) × (number ≡ shard.logs.number)
HasCause points shard old new fault.HistoryFull = IsAccepted shard.live.points points × (shard.logs.number ≡ last_number)
HasCause points shard old new (fault.SeriesFull held) = IsOpen points shard × PassesSeries points shard × (held ≡ length shard.logs.series.keys)
HasCause points shard old new (fault.CacheFull held) =
    IsOpen points shard × FitsSeries points shard × (held ≡ length shard.live.points) × (shard.settings.cache_points < held + length points)
HasCause points shard old new fault.Memory = ⊤
HasCause points shard old new fault.Fault =
    Failed old new × IsOpen points shard × FitsSeries points shard × (length shard.live.points + length points ≤ shard.settings.cache_points)

-- nothing but memory and the disk refuses the batch, and these are its series that aren't held
pub record Allows {D : Type 0} (points : List Point) (shard : Shard D) (new : List (List ℕ)) : Type 0 where
  pub is_open : IsOpen points shard
  pub unheld : AreUnheld shard.logs.series.keys points new
  pub fits : length shard.logs.series.keys + length new ≤ shard.settings.series
  pub fits_cache : length shard.live.points + length points ≤ shard.settings.cache_points

-- the records are made, and there is room for the points
pub record Readies {D : Type 0} (client : ℕ) (points : List Point) (new : List (List ℕ)) (prepared : Prepared) (old now : Shard D) : Type 0 where
  pub may : MayEnter now.logs prepared
  pub is_record : IsRecordOf (Write client points) prepared
  pub series : series_in prepared.series ≡ new
  pub room : now.live.room ≡ Some points

-- want of memory, or a fault of the disk
abbrev pub IsTrouble : Health → Health → WriteFault → Type 0
IsTrouble old new (fault.TypeConflict field held number) = ⊥
IsTrouble old new fault.HistoryFull = ⊥
IsTrouble old new (fault.SeriesFull held) = ⊥
IsTrouble old new (fault.CacheFull held) = ⊥
IsTrouble old new fault.Memory = ⊤
IsTrouble old new fault.Fault = Failed old new

-- the step of a history: the entry becomes its last and none is in doubt, or a refusal leaves its entries
pub record Steps {D R W : Type 0} (g : Ghosts D R W) (client : ℕ) (points : List Point) (old new : Shard D) (result : Result ℕ WriteFault) : Type 0 where
  pub ok : OnOk result (IsTrue g.tells → (start : State) (since : ℕ) (made : List Made) (refused : List Attempt) (doubt : Option Entry) → Runs g old start since made refused doubt
      → Runs g new start since (made ++ record { entry = Write client points; moment = (g.crashes new.logs.disk).moment } ∷ []) refused None)
  pub stays : OnErr result (IsTrue g.tells → (start : State) (since : ℕ) (made : List Made) (refused : List Attempt) (doubt : Option Entry) → Runs g old start since made refused doubt
      → (tried : List Attempt) × (left : Option Entry) × IsTried (IsErrOf result fault.Fault) old.logs.number (Write client points) refused doubt tried left × Runs g new start since made tried left)

-- The entry is in the logs and its points are set; or a refusal left the points and the number, and maybe the new series.
pub record Commits {D R W : Type 0} (g : Ghosts D R W) (client : ℕ) (points : List Point) (prepared : Prepared) (old now : Shard D) (result : Result ℕ WriteFault) : Type 0 where
  pub ok : IfOk result (λ number. (state_of now ≡ state_after (state_of old) (Write client points ∷ [])) × (number ≡ now.logs.number) × (number ≤ last_number)
      × (now.logs.series.keys ≡ old.logs.series.keys ++ series_in prepared.series))
  pub err : OnErr result (state_of now ≡ state_of old)
  pub kept : Keeps old now
  pub series : (now.logs.series.keys ≡ old.logs.series.keys) ⊎ (now.logs.series.keys ≡ old.logs.series.keys ++ series_in prepared.series)
  pub handed_out : g.handed_out now.logs.disk ≡ g.handed_out old.logs.disk
  pub undecided : IfErr result (λ e. IsDecided e → ⊥)
  pub cause : IfErr result (IsTrouble (g.health old.logs.disk) (g.health now.logs.disk))
