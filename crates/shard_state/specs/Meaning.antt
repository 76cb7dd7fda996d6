-- What does a directory of files stand for?
use Rattle.std.specs.Prelude.{◌≡◌, ◌⊎◌, ℕ, List, [], ◌∷◌, Contains, IsSomeAnd}
use Rattle.std.specs.FinMap.{keys}
use Rattle.std.specs.List.{AllByRecursion}
use Rattle.shard_disk.specs.Directory.{Directory, HasFile}
use Rattle.tsdb_types.specs.declared.point.Point.{Point}
use Rattle.gate_log.specs.Records.{IsClosed, IsGated}
use Rattle.point_model.specs.Acceptance.{IsAccepted, IsWritable}
use Rattle.point_model.specs.Histories.{State, after_entry, nothing, state_after}
use Rattle.point_model.specs.Points.{Points}
use Rattle.point_model.specs.declared.entry.Entry.{Entry}
use Rattle.point_model.specs.declared.entry.Entry.TheVariants.{Write, Delete}
use Rattle.manifest_log.specs.declared.directory.Directory.{Directory as Named}
use Rattle.manifest_log.specs.Reading.{IsManifest, manifest}
use Rattle.series_store.specs.Reading.{IsSeriesFile}
use Rattle.wal_store.specs.Replay.{HasSegments, Holds, Logged, joined}
use Rattle.shard_state.specs.Layers.{HasLayers, by_age, overlay}

-- What the files of a directory say: what the manifest names, the series by id, the points of each TSM file, the oldest generation first, the entries of each
-- segment, and those of them that are past the floor.
pub record Meaning : Type 0 where
  pub named : Named
  pub series : List (List ℕ)
  pub layers : List Points
  pub segments : List (List Logged)
  pub entries : List Entry

-- Each file says its part.
pub record Says (files : Directory) (meaning : Meaning) : Type 0 where
  pub manifest : HasFile files manifest (IsManifest meaning.named)
  pub series : IsSomeAnd meaning.named.series (λ file. HasFile files file (IsSeriesFile meaning.series))
  pub layers : HasLayers files (by_age meaning.named.files) meaning.layers
  pub segments : HasSegments files meaning.named.segments meaning.segments

-- The file that the manifest names as the series file has exactly these series.
pub record NamesSeries (files : Directory) (series : List (List ℕ)) : Type 0 where
  pub named : Named
  pub manifest : HasFile files manifest (IsManifest named)
  pub held : IsSomeAnd named.series (λ file. HasFile files file (IsSeriesFile series))

-- it holds of the manifest and of each log that it names
pub record OfLogs (P : ℕ → Type 0) (named : Named) : Type 0 where
  pub first : P manifest
  pub series : IsSomeAnd named.series P
  pub segments : AllByRecursion P named.segments

-- a closed gate ends each log
abbrev pub AreClosed : Directory → Named → Type 0
AreClosed files named = OfLogs (λ file. HasFile files file IsClosed) named

-- the series of each point is one of these
abbrev pub AreHeld : List (List ℕ) → List Point → Type 0
AreHeld series points = AllByRecursion (λ (point : Point). Contains series point.cell.series) points

-- an entry that may stand behind these points: a write has series that are held, one kind for each field, keys that are keys, and
-- no conflict with the points
abbrev pub IsTaken : List (List ℕ) → Points → Entry → Type 0
IsTaken series points (Write client written) = AreHeld series written × IsWritable written × IsAccepted points written
IsTaken series points (Delete client deletion) = Unit {0}

-- each entry may stand behind the points that those before it leave
abbrev pub AreTaken : List (List ℕ) → Points → List Entry → Type 0
AreTaken series points [] = Unit {0}
AreTaken series points (entry ∷ entries) = IsTaken series points entry × AreTaken series (after_entry points entry) entries

-- the points of the TSM files, and the number up to which they have all entries
abbrev pub floor_of : Meaning → State
floor_of meaning = record { points = overlay meaning.layers; number = meaning.named.floor }

-- What the files say holds together: the entries past the floor are counted, and each may stand behind the points of the TSM files
-- and those before it.
pub record IsSound (meaning : Meaning) : Type 0 where
  pub holds : Holds meaning.named.floor (joined meaning.segments) meaning.entries
  pub taken : AreTaken meaning.series (overlay meaning.layers) meaning.entries

-- the points of the TSM files with the entries behind them
abbrev pub state_of : Meaning → State
state_of meaning = state_after (floor_of meaning) meaning.entries

-- The files say what holds together, and it is this. A closed gate ends each log, so that an engine may go on from here.
pub record StandsFor (files : Directory) (state : State) : Type 0 where
  pub meaning : Meaning
  pub says : Says files meaning
  pub closed : AreClosed files meaning.named
  pub sound : IsSound meaning
  pub is : state ≡ state_of meaning

-- nothing is named yet: there is no file, or the manifest is a closed log without a record
abbrev pub IsBlank : Directory → Type 0
IsBlank files = (keys files ≡ []) ⊎ HasFile files manifest (IsGated [])

-- A directory stands for points and a number. Where nothing is named yet it stands for no points.
abbrev pub Stands : Directory → State → Type 0
Stands files state = (IsBlank files × (state ≡ nothing)) ⊎ StandsFor files state

-- it stands for the state, or for that behind one of these entries
abbrev pub StandsWithAtMost : State → List Entry → Directory → Type 0
StandsWithAtMost state [] files = Stands files state
StandsWithAtMost state (entry ∷ entries) files = Stands files (state_after state (entry ∷ [])) ⊎ StandsWithAtMost state entries files
