-- What is opened of a directory?
use Rattle.std.specs.Prelude.{◌≡◌, ◌≢◌, ℕ, nat_eq, List, [], ◌∷◌, ◌++◌, None, Some, Result, Ok, Err, IsTrue}
use Rattle.std.specs.List.{list_any}
use Rattle.std.specs.FinMap.{get, keys}
use Rattle.std.specs.declared.alloc.Global.{Global}
use Rattle.shard_disk.specs.Crash.{Crashes, Leaves, Same}
use Rattle.shard_disk.specs.Directory.{Directory, IsPresent}
use Rattle.shard_disk.specs.Health.{Health, Ages, Failed}
use Rattle.shard_disk.specs.declared.disk.Disk.{Ghosts}
use Rattle.gate_log.specs.declared.fault.LogFault.{LogFault}
use Rattle.gate_log.specs.declared.fault.LogFault.TheVariants.{Fault}
use Rattle.manifest_log.specs.Calls.{Finds as FindsNamed}
use Rattle.manifest_log.specs.declared.directory.Directory.{Directory as Named}
use Rattle.point_model.specs.Histories.{State}
use Rattle.point_model.specs.declared.entry.Entry.{Entry}
use Rattle.series_store.specs.Calls.{Finds, Kept}
use Rattle.wal_store.specs.Replay.{Replays}
use Rattle.wal_store.specs.Segments.{Segments}
use Rattle.shard_state.specs.declared.logs.Logs.{Logs}
use Rattle.shard_state.specs.Books.{Books, state_in}
use Rattle.shard_state.specs.Crashes.{LeavesOnly}
use Rattle.shard_state.specs.Meaning.{Stands}
use Rattle.shard_state.specs.Opening.{IsSoundThroughout}
use Rattle.manifest_log.specs.Reading.{manifest}
use Rattle.shard_state.specs.Engine.{Holds, IsReady}
use Rattle.shard_recover.specs.declared.parts.Begun.{Begun}
use Rattle.shard_recover.specs.declared.parts.Parts.{Parts}

-- The logs stand for the state with nothing in doubt, and no points are in TSM files.
pub record Opens {D R W : Type 0} (g : Ghosts D R W) (state : State) (logs : Logs D) : Type 0 where
  pub books : Books
  pub holds : Holds g logs books None
  pub is : state ≡ state_in books
  pub layers : books.layers ≡ []

-- Where a disk is sound and what a crash leaves of it stands for its state, a crash at any moment of the calls leaves what does.
abbrev pub LeavesState : {D R W : Type 0} → Ghosts D R W → D → D → Type 0
LeavesState g old new = IsTrue g.tells → (state : State) → IsSoundThroughout g old state → LeavesOnly (λ (c : Directory). Stands c state) (g.crashes old) (g.crashes new)

-- The manifest and the series file that it names were read, and which files are there. It names no TSM file.
pub record IsBegun (tells : Type 0) (begun : Begun) (files : Directory) (crashes crashes' : Crashes) : Type 0 where
  pub manifest : FindsNamed tells begun.manifest begun.named files crashes crashes'
  pub no_files : begun.named.files ≡ []
  pub file : ℕ
  pub is : begun.named.series ≡ Some file
  pub series : Finds tells file begun.series files crashes crashes'
  pub numbers : tells → begun.numbers.items ≡ keys files

-- the parts that were read, on their disk
abbrev pub logs_on : {D : Type 0} → Global → D → Parts → Logs D
logs_on alloc disk parts = record { alloc = alloc; disk = disk; manifest = parts.manifest; series = parts.series; wal = parts.wal; number = parts.wal.last }

-- the parts open the directory that they name
pub record OpensParts {D R W : Type 0} (g : Ghosts D R W) (state : State) (alloc : Global) (disk : D) (parts : Parts) : Type 0 where
  pub opens : Opens g state (logs_on alloc disk parts)
  pub named : opens.books.named ≡ parts.named

-- they are ready for the calls of an engine, and their files are named
pub record ReadyParts {D R W : Type 0} (g : Ghosts D R W) (alloc : Global) (disk : D) (parts : Parts) : Type 0 where
  pub ready : IsReady g (logs_on alloc disk parts)
  pub manifest_file : parts.manifest.log.file ≡ manifest
  pub series_file : parts.named.series ≡ Some parts.series.log.file
  pub before : List ℕ
  pub segments : parts.named.segments ≡ before ++ parts.wal.log.file ∷ []

-- The series file and the segments that are named were read, one after another. No TSM file is named.
pub record ReadsLogs (tells : Type 0) (named : Named) (kept : Kept) (wal : Segments) (entries : List Entry) (files : Directory) (crashes crashes' : Crashes) : Type 0 where
  pub no_files : named.files ≡ []
  pub file : ℕ
  pub is : named.series ≡ Some file
  pub series : Finds tells file kept files crashes crashes'
  pub replays : Replays tells named.floor named.segments wal entries files crashes crashes'

-- What opening does to the health of its disk: `Fault` is answered where the disk failed in the call, and there alone.
abbrev pub HasOpeningCause : {D : Type 0} → Result (Logs D) (D × LogFault) → Health → (D → Health) → Type 0
HasOpeningCause (Ok logs) old health = health logs.disk ≡ old
HasOpeningCause (Err refused) old health = Ages old (health refused.0) × (refused.1 ≡ Fault → Failed old (health refused.0)) × (refused.1 ≢ Fault → health refused.0 ≡ old)

-- the number is one of these
abbrev pub IsAmong : List ℕ → ℕ → Type 0
IsAmong numbers number = IsTrue (list_any (λ n. nat_eq n number) numbers)

-- each of these files is as it was
abbrev pub Spares : List ℕ → Directory → Directory → Type 0
Spares keep old new = (number : ℕ) → IsAmong keep number → get new number ≡ get old number

-- each file that is there is one of these
abbrev pub HasOnly : List ℕ → Directory → Type 0
HasOnly keep files = (number : ℕ) → IsPresent files number → IsAmong keep number

-- no file appeared, and the one of this number is there only where it is one of these
pub record LeavesOne (keep : List ℕ) (number : ℕ) (old new : Directory) : Type 0 where
  pub others : (n : ℕ) → IsPresent new n → IsPresent old n
  pub here : IsPresent new number → IsAmong keep number

-- Files were removed, and none of these was: as the disk reads, whatever crash comes, and each that was adopted is so.
pub record Removes {D R W : Type 0} (g : Ghosts D R W) (keep : List ℕ) (old new : D) : Type 0 where
  pub files : IsTrue g.tells → Spares keep (g.files old) (g.files new)
  pub crash : Leaves (Spares keep) (g.crashes old) (g.crashes new)
  pub adopted : (number : ℕ) → IsAmong keep number → (g.handed_out new).adopted number ≡ (g.handed_out old).adopted number
  pub readers : (g.handed_out new).readers ≡ (g.handed_out old).readers
  pub next : (g.handed_out new).next_number ≡ (g.handed_out old).next_number
