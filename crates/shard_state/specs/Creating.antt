-- What are the first files of a directory?
use Rattle.std.specs.Prelude.{◌≡◌, ◌≢◌, ◌^◌, ℕ, ◌<◌, List, [], ◌∷◌, Some, None, Result, Ok, Err, IsTrue}
use Rattle.std.specs.declared.alloc.Global.{Global}
use Rattle.shard_disk.specs.Directory.{Directory}
use Rattle.shard_disk.specs.Health.{Ages, Failed, Health}
use Rattle.shard_disk.specs.declared.disk.Disk.{Ghosts}
use Rattle.gate_log.specs.declared.fault.LogFault.{LogFault}
use Rattle.gate_log.specs.declared.fault.LogFault.TheVariants as fault
use Rattle.gate_log.specs.Log.{HasGate, IsEmptyLog, IsPlaced, Stands}
use Rattle.point_model.specs.Histories.{nothing}
use Rattle.manifest_log.specs.declared.change.Change.{Change}
use Rattle.manifest_log.specs.declared.change.Change.TheVariants.{AddSegment, NameSeries, SetFloor}
use Rattle.manifest_log.specs.declared.directory.Directory.{Directory as Named}
use Rattle.manifest_log.specs.declared.manifest.Manifest.{Manifest}
use Rattle.manifest_log.specs.Calls.{CanFollow}
use Rattle.manifest_log.specs.Edits.{Follows, empty}
use Rattle.manifest_log.specs.Reading.{manifest}
use Rattle.series_store.specs.Calls.{Kept}
use Rattle.wal_store.specs.Segments.{Segments}
use Rattle.shard_state.specs.declared.first_files.Files.{Files}
use Rattle.shard_state.specs.declared.logs.Logs.{Logs}
use Rattle.shard_state.specs.Crashes.{LeavesOnly}
use Rattle.shard_state.specs.Meaning.{Stands as StandsAs}
use Rattle.shard_state.specs.Opening.{IsBlankAtOpening}

-- the first edit: the series file, the segment, and no entry in TSM files
abbrev pub first_changes : ℕ → ℕ → List Change
first_changes series segment = NameSeries series ∷ AddSegment segment ∷ SetFloor 0 ∷ []

-- what it names
abbrev pub first_named : ℕ → ℕ → Named
first_named series segment = record empty { series = Some series; segments = segment ∷ [] }

-- The files are there and apart, where the disk tells its files, and the logs of the series and of the segment are new.
pub record AreFirst {D R W : Type 0} (g : Ghosts D R W) (disk : D) (files : Files) : Type 0 where
  pub manifest_file : files.manifest.log.file ≡ manifest
  pub series_small : files.series.file < 2 ^ 32
  pub segment_small : files.segment.file < 2 ^ 32
  pub series_empty : IsEmptyLog files.series
  pub segment_empty : IsEmptyLog files.segment
  pub manifest_placed : IsTrue g.tells → IsPlaced (g.files disk) files.manifest.log
  pub series_placed : IsTrue g.tells → IsPlaced (g.files disk) files.series
  pub segment_placed : IsTrue g.tells → IsPlaced (g.files disk) files.segment
  pub series_manifest : IsTrue g.tells → manifest ≢ files.series.file
  pub segment_manifest : IsTrue g.tells → manifest ≢ files.segment.file
  pub segment_series : IsTrue g.tells → files.series.file ≢ files.segment.file
  pub first : IsTrue g.tells → (changes : List Change) (next : Named) → Follows empty changes next → next.segments ≢ [] → CanFollow changes files.manifest (g.files disk)

-- Each of them is a closed log without a record, as it reads and whatever a crash leaves, and is adopted.
pub record AreNew {D R W : Type 0} (g : Ghosts D R W) (disk : D) (files : Files) : Type 0 where
  pub manifest : Stands (g.files disk) (g.crashes disk) files.manifest.log [] None
  pub series : Stands (g.files disk) (g.crashes disk) files.series [] None
  pub segment : Stands (g.files disk) (g.crashes disk) files.segment [] None
  pub manifest_gate : HasGate files.manifest.log
  pub series_gate : HasGate files.series
  pub segment_gate : HasGate files.segment
  pub manifest_adopted : IsTrue ((g.handed_out disk).adopted files.manifest.log.file)
  pub series_adopted : IsTrue ((g.handed_out disk).adopted files.series.file)
  pub segment_adopted : IsTrue ((g.handed_out disk).adopted files.segment.file)

-- the logs over this disk, with no entry
abbrev pub first_logs : {D : Type 0} → Global → D → Manifest → Kept → Segments → Logs D
first_logs alloc disk manifest series wal = record { alloc = alloc; disk = disk; manifest = manifest; series = series; wal = wal; number = 0 }

-- Where nothing was named, and what a crash left stood for no points, this holds of whatever a crash at any moment of the call leaves.
abbrev pub Creates : {D R W : Type 0} → Ghosts D R W → D → D → Type 0
Creates g disk disk' =
    IsTrue g.tells → IsBlankAtOpening (g.files disk) (g.crashes disk) (g.handed_out disk) → ((c : Directory) → (g.crashes disk).now c → StandsAs c nothing)
    → LeavesOnly (λ (c : Directory). StandsAs c nothing) (g.crashes disk) (g.crashes disk')

-- the disk that making a directory gave back
abbrev pub disk_of : {D : Type 0} → Result (Logs D) (D × LogFault) → D
disk_of (Ok logs) = logs.disk
disk_of (Err refused) = refused.0

-- What making a directory does to the health of its disk: `Fault` is answered where the disk failed in the call, and there alone.
abbrev pub CreateHasCause : {D : Type 0} → Result (Logs D) (D × LogFault) → Health → (D → Health) → Type 0
CreateHasCause (Ok logs) old health = health logs.disk ≡ old
CreateHasCause (Err refused) old health = Ages old (health refused.0) × (refused.1 ≡ fault.Fault → Failed old (health refused.0)) × ((refused.1 ≡ fault.Fault → ⊥) → health refused.0 ≡ old)
