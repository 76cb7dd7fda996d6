-- What holds of an engine's logs over their disk?
use Rattle.std.specs.Prelude.{◌≡◌, ◌≢◌, ◌⊎◌, ℕ, ◌+◌, ◌<◌, ◌≤◌, List, [], length, Option, None, Some, IfSome, IsTrue}
use Rattle.shard_disk.specs.HandedOut.{HandedOut}
use Rattle.shard_disk.specs.declared.disk.Disk.{Ghosts}
use Rattle.gate_log.specs.Log.{IsPlaced}
use Rattle.point_model.specs.Histories.{State}
use Rattle.point_model.specs.declared.entry.Entry.{Entry}
use Rattle.manifest_log.specs.declared.directory.Directory.{Directory as Named}
use Rattle.series_store.specs.Calls.{Kept}
use Rattle.series_store.specs.Lists.{MayAdd}
use Rattle.wal_store.specs.Segments.{SpellsRecord, last_number}
use Rattle.shard_state.specs.declared.logs.Logs.{Logs}
use Rattle.shard_state.specs.declared.prepare.Prepared.{Prepared}
use Rattle.shard_state.specs.Books.{Books, IsNext, state_in, with_series}
use Rattle.shard_state.specs.Keeping.{Keeps}
use Rattle.shard_state.specs.Meaning.{OfLogs}

-- The manifest and the logs that it names are adopted and aren't being removed: each crash leaves them.
abbrev pub AreAdopted : HandedOut → Named → Type 0
AreAdopted handed named = OfLogs (λ file. IsTrue (handed.adopted file)) named

-- The logs have what the books say, with this entry in doubt or none.
pub record Holds {D R W : Type 0} (g : Ghosts D R W) (logs : Logs D) (books : Books) (doubt : Option Entry) : Type 0 where
  pub keeps : Keeps (g.files logs.disk) (g.crashes logs.disk) logs.manifest.log logs.series logs.wal books doubt
  pub adopted : AreAdopted (g.handed_out logs.disk) books.named
  pub number : logs.number ≡ (state_in books).number

-- What the calls of the logs ask for: their files are there and apart, where the disk tells its files, and the log of entries goes on
-- with the next number.
pub record IsReady {D R W : Type 0} (g : Ghosts D R W) (logs : Logs D) : Type 0 where
  pub manifest_placed : IsTrue g.tells → IsPlaced (g.files logs.disk) logs.manifest.log
  pub series_placed : IsTrue g.tells → IsPlaced (g.files logs.disk) logs.series.log
  pub wal_placed : IsTrue g.tells → IsPlaced (g.files logs.disk) logs.wal.log
  pub series_manifest : IsTrue g.tells → logs.manifest.log.file ≢ logs.series.log.file
  pub wal_manifest : IsTrue g.tells → logs.manifest.log.file ≢ logs.wal.log.file
  pub wal_series : IsTrue g.tells → logs.series.log.file ≢ logs.wal.log.file
  pub counted : logs.wal.last ≡ logs.number
  pub limit : logs.number ≤ last_number

-- the logs stand for the state, and nothing is in doubt
pub record IsOpened {D R W : Type 0} (g : Ghosts D R W) (state : State) (logs : Logs D) : Type 0 where
  pub books : Books
  pub holds : Holds g logs books None
  pub is : state ≡ state_in books

-- the series that were prepared, and none where no record of them was
abbrev pub series_in : Option (List (List ℕ)) → List (List ℕ)
series_in None = []
series_in (Some series) = series

-- the series may be added, and there is room for them in memory
pub record HasRoomFor (held : Kept) (series : List (List ℕ)) : Type 0 where
  pub may : MayAdd held.keys series
  pub room : length series ≤ held.room

-- what was prepared can be entered: its series can be added, and the entry has the next number
pub record MayEnter {D : Type 0} (logs : Logs D) (prepared : Prepared) : Type 0 where
  pub series : IfSome prepared.series (HasRoomFor logs.series)
  pub number : prepared.record.number ≡ logs.number + 1
  pub limit : logs.number < last_number

-- the record that was prepared is this entry's
abbrev pub IsRecordOf : Entry → Prepared → Type 0
IsRecordOf entry prepared = SpellsRecord prepared.record.number entry prepared.record.body

-- the entry that was prepared may stand behind what the books say, once its series are held
pub record MayFollow (books : Books) (prepared : Prepared) (entry : Entry) : Type 0 where
  pub spells : IsRecordOf entry prepared
  pub next : IsNext (with_series books (series_in prepared.series)) entry

-- what is in doubt after a refusal: none, the entry that was, or after a fault this one
abbrev pub IsLeftEntry : Type 0 → Option Entry → Entry → Option Entry → Type 0
IsLeftEntry fault doubt entry left = (left ≡ None) ⊎ (left ≡ doubt) ⊎ (fault × (left ≡ Some entry))

-- After a refusal the series may be held, and at most one entry is in doubt: the one that was, or after a fault this one.
pub record Refused {D R W : Type 0} (g : Ghosts D R W) (fault : Type 0) (more : List (List ℕ)) (entry : Entry) (logs : Logs D) (books : Books) (doubt : Option Entry) : Type 0 where
  pub held : List (List ℕ)
  pub are : (held ≡ []) ⊎ (held ≡ more)
  pub left : Option Entry
  pub is_left : IsLeftEntry fault doubt entry left
  pub holds : Holds g logs (with_series books held) left
