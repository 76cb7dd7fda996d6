-- What do the calls make of an engine's logs?
use Rattle.std.specs.Prelude.{◌≡◌, ◌⊎◌, ℕ, ◌+◌, List, [], ◌∷◌, ◌++◌, Option, None, Result, IsErrOf, IsTrue, OnOk, OnErr}
use Rattle.std.specs.Option.{option_to_list}
use Rattle.shard_disk.specs.Directory.{Directory}
use Rattle.shard_disk.specs.Health.{HasCause}
use Rattle.shard_disk.specs.declared.disk.Disk.{Ghosts}
use Rattle.shard_disk.specs.declared.trouble.Trouble.{Trouble}
use Rattle.shard_disk.specs.declared.trouble.Trouble.TheVariants.{Fault}
use Rattle.point_model.specs.Histories.{State, state_after}
use Rattle.point_model.specs.declared.entry.Entry.{Entry}
use Rattle.shard_state.specs.declared.logs.Logs.{Logs}
use Rattle.shard_state.specs.declared.prepare.Prepared.{Prepared}
use Rattle.wal_store.specs.Segments.{Recorded, SpellsRecord}
use Rattle.shard_state.specs.Books.{Books, IsNext, state_in, with_entry, with_series}
use Rattle.shard_state.specs.Crashes.{LeavesOnly}
use Rattle.shard_state.specs.Engine.{Holds, IsLeftEntry, IsRecordOf, MayFollow, Refused, series_in}
use Rattle.shard_state.specs.History.{Attempt, Made, Ran, Survives, entries_of}
use Rattle.shard_state.specs.Meaning.{IsTaken, NamesSeries, StandsWithAtMost}
use Rattle.shard_state.specs.Opening.{IsSoundThroughout, IsSoundWithAtMost}

-- The series are held, or a refusal left those that were. What is in doubt of the entries stays so. A crash at any moment of the call
-- leaves the state, with the entry in doubt or without.
pub record AddsSeries {D R W : Type 0} (g : Ghosts D R W) (more : List (List ℕ)) (old new : Logs D) (result : Result (Unit {0}) Trouble) : Type 0 where
  pub ok : OnOk result (IsTrue g.tells → (books : Books) (doubt : Option Entry) → Holds g old books doubt → Holds g new (with_series books more) doubt)
  pub refused : OnErr result (IsTrue g.tells → (books : Books) (doubt : Option Entry) → Holds g old books doubt → Holds g new books doubt)
  pub crash : IsTrue g.tells → (books : Books) (doubt : Option Entry) → Holds g old books doubt
      → LeavesOnly (StandsWithAtMost (state_in books) (option_to_list doubt)) (g.crashes old.disk) (g.crashes new.disk)

-- The record's entry is the last one, with nothing in doubt, or a refusal left the entries as they were. A crash at any moment of the
-- call leaves the state, with the new entry, with the one that was in doubt, or with neither.
pub record AddsEntry {D R W : Type 0} (g : Ghosts D R W) (added : Recorded) (old new : Logs D) (result : Result (Unit {0}) Trouble) : Type 0 where
  pub ok : OnOk result (IsTrue g.tells → (books : Books) (doubt : Option Entry) (entry : Entry) → Holds g old books doubt → SpellsRecord added.number entry added.body → IsNext books entry
      → Holds g new (with_entry books entry) None)
  pub refused : OnErr result (IsTrue g.tells → (books : Books) (doubt : Option Entry) (entry : Entry) → Holds g old books doubt → SpellsRecord added.number entry added.body → IsNext books entry
      → (left : Option Entry) × IsLeftEntry (IsErrOf result Fault) doubt entry left × Holds g new books left)
  pub crash : IsTrue g.tells → (books : Books) (doubt : Option Entry) (entry : Entry) → Holds g old books doubt → SpellsRecord added.number entry added.body → IsNext books entry
      → LeavesOnly (StandsWithAtMost (state_in books) (entry ∷ option_to_list doubt)) (g.crashes old.disk) (g.crashes new.disk)

-- The series are held and the entry is the last one, with nothing in doubt; or a refusal left the entries as they were. A crash at
-- any moment of the call leaves the state, with the new entry, with the one that was in doubt, or with neither.
pub record Enters {D R W : Type 0} (g : Ghosts D R W) (prepared : Prepared) (old new : Logs D) (result : Result (Unit {0}) Trouble) : Type 0 where
  pub ok : OnOk result (IsTrue g.tells → (books : Books) (doubt : Option Entry) (entry : Entry) → Holds g old books doubt → MayFollow books prepared entry
      → Holds g new (with_entry (with_series books (series_in prepared.series)) entry) None)
  pub refused : OnErr result (IsTrue g.tells → (books : Books) (doubt : Option Entry) (entry : Entry) → Holds g old books doubt → MayFollow books prepared entry
      → Refused g (IsErrOf result Fault) (series_in prepared.series) entry new books doubt)
  pub crash : IsTrue g.tells → (books : Books) (doubt : Option Entry) (entry : Entry) → Holds g old books doubt → MayFollow books prepared entry
      → LeavesOnly (StandsWithAtMost (state_in books) (entry ∷ option_to_list doubt)) (g.crashes old.disk) (g.crashes new.disk)

-- The entry becomes the last of a history, with none in doubt. Or a refusal leaves the history as it was, and is one behind its last
-- number; in doubt is then none, the entry that was, or after a fault this one.
pub record GoesOn {D R W : Type 0} (g : Ghosts D R W) (prepared : Prepared) (old new : Logs D) (result : Result (Unit {0}) Trouble) : Type 0 where
  pub ok : OnOk result (IsTrue g.tells → (start : State) (since : ℕ) (made : List Made) (refused : List Attempt) (doubt : Option Entry) (entry : Entry) → Ran g old start since made refused doubt
      → IsRecordOf entry prepared → IsTaken (old.series.keys ++ series_in prepared.series) (state_after start (entries_of made)).points entry
      → Ran g new start since (made ++ record { entry = entry; moment = (g.crashes new.disk).moment } ∷ []) refused None)
  pub stays : OnErr result (IsTrue g.tells → (start : State) (since : ℕ) (made : List Made) (refused : List Attempt) (doubt : Option Entry) (entry : Entry) → Ran g old start since made refused doubt
      → IsRecordOf entry prepared → IsTaken (old.series.keys ++ series_in prepared.series) (state_after start (entries_of made)).points entry
      → (left : Option Entry) × IsLeftEntry (IsErrOf result Fault) doubt entry left × Ran g new start since made (refused ++ (old.number, entry) ∷ []) left)

-- The number rises by one with an entry and else stays. The new series are held after an entry, and may be after a refusal.
pub record Counts {D : Type 0} (prepared : Prepared) (old new : Logs D) (result : Result (Unit {0}) Trouble) : Type 0 where
  pub number : OnOk result (new.number ≡ old.number + 1)
  pub same_number : OnErr result (new.number ≡ old.number)
  pub keys : OnOk result (new.series.keys ≡ old.series.keys ++ series_in prepared.series)
  pub maybe_keys : OnErr result ((new.series.keys ≡ old.series.keys) ⊎ (new.series.keys ≡ old.series.keys ++ series_in prepared.series))

-- Nothing is in doubt any more, or a refusal left the doubt. A crash at any moment of the call leaves the state, with the entry in
-- doubt or without.
pub record SettlesDoubt {D R W : Type 0} (g : Ghosts D R W) (old new : Logs D) (result : Result (Unit {0}) Trouble) : Type 0 where
  pub ok : OnOk result (IsTrue g.tells → (books : Books) (doubt : Option Entry) → Holds g old books doubt → Holds g new books None)
  pub refused : OnErr result (IsTrue g.tells → (books : Books) (doubt : Option Entry) → Holds g old books doubt → Holds g new books doubt)
  pub crash : IsTrue g.tells → (books : Books) (doubt : Option Entry) → Holds g old books doubt
      → LeavesOnly (StandsWithAtMost (state_in books) (option_to_list doubt)) (g.crashes old.disk) (g.crashes new.disk)
  pub ran : OnOk result (IsTrue g.tells → (start : State) (since : ℕ) (made : List Made) (refused : List Attempt) (doubt : Option Entry) → Ran g old start since made refused doubt → Ran g new start since made refused None)
  pub ran_refused : OnErr result (IsTrue g.tells → (start : State) (since : ℕ) (made : List Made) (refused : List Attempt) (doubt : Option Entry) → Ran g old start since made refused doubt → Ran g new start since made refused doubt)

-- After Ok the disk stands for exactly the state, and every crash leaves it. After a refusal the entry that was in doubt may be there
-- besides. Either way the disk is sound as it is opened again, and the series file that its manifest names has the series that were
-- held, with those behind them of a batch that was refused, where their record was in doubt and is there.
pub record Closes {D R W : Type 0} (g : Ghosts D R W) (logs : Logs D) (disk : D) (result : Result (Unit {0}) Trouble) : Type 0 where
  pub ok : OnOk result (IsTrue g.tells → (books : Books) (doubt : Option Entry) → Holds g logs books doubt → IsSoundThroughout g disk (state_in books))
  pub refused : OnErr result (IsTrue g.tells → (books : Books) (doubt : Option Entry) → Holds g logs books doubt
      → IsSoundWithAtMost g disk (state_in books) (option_to_list doubt) × ((c : Directory) → (g.crashes disk).now c → StandsWithAtMost (state_in books) (option_to_list doubt) c))
  pub crash : IsTrue g.tells → (books : Books) (doubt : Option Entry) → Holds g logs books doubt
      → LeavesOnly (StandsWithAtMost (state_in books) (option_to_list doubt)) (g.crashes logs.disk) (g.crashes disk)
  pub ran : IsTrue g.tells → (start : State) (since : ℕ) (made : List Made) (refused : List Attempt) (doubt : Option Entry) → Ran g logs start since made refused doubt
      → Survives (g.crashes disk) start since made refused
  pub series : IsTrue g.tells → (books : Books) (doubt : Option Entry) → Holds g logs books doubt → (more : List (List ℕ)) × NamesSeries (g.files disk) (logs.series.keys ++ more)
  pub handed_out : g.handed_out disk ≡ g.handed_out logs.disk
  pub fault : HasCause result (g.health logs.disk) (g.health disk)
