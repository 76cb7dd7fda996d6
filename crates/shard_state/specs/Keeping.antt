-- What holds of an engine's logs, as they read and whatever a crash leaves?
use Rattle.std.specs.Prelude.{◌≡◌, ◌≢◌, ℕ, ◌+◌, List, [], ◌∷◌, Option, None, Some, IfSome}
use Rattle.std.specs.List.{AllByRecursion}
use Rattle.shard_disk.specs.Crash.{Crashes, Everywhere}
use Rattle.shard_disk.specs.Directory.{Directory}
use Rattle.gate_log.specs.declared.log.Log.{Log}
use Rattle.gate_log.specs.Log.{HasGate, Stands}
use Rattle.point_model.specs.declared.entry.Entry.{Entry}
use Rattle.manifest_log.specs.declared.change.Change.{Change}
use Rattle.manifest_log.specs.declared.directory.Directory.{Directory as Named}
use Rattle.manifest_log.specs.Reading.{Lead, bodies_of, manifest}
use Rattle.series_store.specs.Calls.{Kept}
use Rattle.series_store.specs.Format.{IsKey, record_bytes}
use Rattle.series_store.specs.Lists.{Hold, MayAdd}
use Rattle.wal_store.specs.Replay.{AreRecords, IsSegment, Logged}
use Rattle.wal_store.specs.Segments.{Segments, SpellsRecord}
use Rattle.file_table.specs.declared.row.FileRow.{FileRow}
use Rattle.point_model.specs.Points.{Points}
use Rattle.shard_state.specs.Layers.{IsLayer, by_age}
use Rattle.shard_state.specs.Books.{AreBooks, Books, IsClosedLog, IsNext, state_in}

-- the manifest's log has the edits that lead to what is named, and none is in doubt
pub record KeepsManifest (files : Directory) (crashes : Crashes) (log : Log) (named : Named) : Type 0 where
  pub edits : List (List Change)
  pub some : edits ≢ []
  pub lead : Lead edits named
  pub segment : named.segments ≢ []
  pub file : log.file ≡ manifest
  pub gate : HasGate log
  pub stands : Stands files crashes log (bodies_of edits) None

-- what may be in doubt of the series file: a record of series that may be added
abbrev pub IsSeriesDoubt : List (List ℕ) → List ℕ → Type 0
IsSeriesDoubt series body = (more : List (List ℕ)) × (body ≡ record_bytes more) × AllByRecursion IsKey more × MayAdd series more

-- the series file holds the series, and maybe a record of more is in doubt
pub record KeepsSeriesFile (files : Directory) (crashes : Crashes) (log : Log) (file : ℕ) (series : List (List ℕ)) : Type 0 where
  pub records : List (List ℕ)
  pub doubt : Option (List ℕ)
  pub own : log.file ≡ file
  pub hold : Hold records series
  pub doubts : IfSome doubt (IsSeriesDoubt series)
  pub gate : HasGate log
  pub stands : Stands files crashes log records doubt

-- the record in doubt is that of the entry in doubt, which may be the next one
abbrev pub IsEntryDoubt : Books → Option Entry → Option (List ℕ) → Type 0
IsEntryDoubt books None None = Unit {0}
IsEntryDoubt books (Some entry) (Some body) = SpellsRecord ((state_in books).number + 1) entry body × IsNext books entry
IsEntryDoubt books None (Some body) = ⊥
IsEntryDoubt books (Some entry) None = ⊥

-- the last segment has its entries, and this one is in doubt or none
pub record KeepsLatest (files : Directory) (crashes : Crashes) (log : Log) (books : Books) (doubt : Option Entry) : Type 0 where
  pub records : List (List ℕ)
  pub body : Option (List ℕ)
  pub own : log.file ≡ books.last
  pub are : AreRecords books.latest records
  pub doubts : IsEntryDoubt books doubt body
  pub gate : HasGate log
  pub stands : Stands files crashes log records body

-- each of the segments but the last has its entries, and a closed gate ends it
abbrev pub KeepsEarlier : Directory → Crashes → List ℕ → List (List Logged) → Type 0
KeepsEarlier files crashes [] [] = Unit {0}
KeepsEarlier files crashes [] (logged ∷ others) = ⊥
KeepsEarlier files crashes (file ∷ segments) [] = ⊥
KeepsEarlier files crashes (file ∷ segments) (logged ∷ others) = Everywhere files crashes file (IsClosedLog (IsSegment logged)) × KeepsEarlier files crashes segments others

-- each TSM file is its layer, as it reads and whatever a crash leaves
abbrev pub KeepsLayers : Directory → Crashes → List FileRow → List Points → Type 0
KeepsLayers files crashes [] [] = Unit {0}
KeepsLayers files crashes [] (layer ∷ layers) = ⊥
KeepsLayers files crashes (row ∷ rows) [] = ⊥
KeepsLayers files crashes (row ∷ rows) (layer ∷ layers) = Everywhere files crashes row.no (IsLayer row layer) × KeepsLayers files crashes rows layers

-- The logs have what the books say. At most one entry is in doubt.
pub record Keeps (files : Directory) (crashes : Crashes) (manifest_log : Log) (held : Kept) (wal : Segments) (books : Books) (doubt : Option Entry) : Type 0 where
  pub sound : AreBooks books
  pub manifest : KeepsManifest files crashes manifest_log books.named
  pub keys : held.keys ≡ books.series
  pub series : KeepsSeriesFile files crashes held.log books.series_file books.series
  pub layers : KeepsLayers files crashes (by_age books.named.files) books.layers
  pub earlier : KeepsEarlier files crashes books.before books.earlier
  pub latest : KeepsLatest files crashes wal.log books doubt
  pub segments : wal.files ≡ books.named.segments
