-- What is wrong with a directory first, and where is that?
use Rattle.std.specs.Prelude.{◌≡◌, ◌≢◌, ◌⊎◌, ℕ, ◌<◌, List, [], ◌∷◌, ◌++◌, length, None, Some, Err}
use Rattle.shard_disk.specs.Directory.{Directory, HasFile, IsPresent}
use Rattle.shard_disk.specs.declared.damage.Damage.{Damage}
use Rattle.shard_disk.specs.declared.damage.Why.TheVariants.{Body, Missing}
use Rattle.gate_log.specs.Damage.{IsLog}
use Rattle.gate_log.specs.Records.{spelled}
use Rattle.point_model.specs.Histories.{after}
use Rattle.point_model.specs.Points.{no_points}
use Rattle.manifest_log.specs.declared.directory.Directory.{Directory as Named}
use Rattle.manifest_log.specs.Reading.{IsManifest, Reads, manifest}
use Rattle.series_store.specs.Reading.{IsSeriesFile}
use Rattle.series_store.specs.Reading.{IsWrong as IsWrongSeries}
use Rattle.wal_store.specs.Reading.{entries_past}
use Rattle.wal_store.specs.Replay.{AreCounted, AreRecords, HasSegments, IsWrongSegment, Logged, joined}
use Rattle.wal_store.specs.Segments.{SpellsRecord}
use Rattle.shard_state.specs.Meaning.{AreTaken, IsTaken}

-- ---- what is wrong with one part

-- the file isn't there, which is told at its beginning
pub record IsMissing (damage : Damage) (files : Directory) (file : ℕ) : Type 0 where
  pub gone : IsPresent files file → ⊥
  pub told : damage ≡ record { file = file; offset = 0; why = Missing }

-- The manifest names no series file, or a TSM file, as no engine of this form does: that is told at its beginning.
pub record HasNoForm (damage : Damage) (named : Named) : Type 0 where
  pub lacks : (named.series ≡ None) ⊎ (named.files ≢ [])
  pub told : damage ≡ record { file = manifest; offset = 0; why = Body }

-- The first segments are sound and their entries counted, and the next one is missing, or is wrong behind these entries.
pub record IsWrongLog (damage : Damage) (floor : ℕ) (files : Directory) (segments : List ℕ) : Type 0 where
  pub sound : List ℕ
  pub wrong_file : ℕ
  pub others : List ℕ
  pub parts : segments ≡ sound ++ wrong_file ∷ others
  pub logged : List (List Logged)
  pub have : HasSegments files sound logged
  pub counted : AreCounted floor (joined logged)
  pub wrong : IsMissing damage files wrong_file ⊎ HasFile files wrong_file (IsWrongSegment damage wrong_file floor (joined logged))

-- Behind these entries of the segments stands this one: its record begins at this offset of this file.
pub record StandsAt (files : Directory) (segments : List ℕ) (file offset : ℕ) (before : List Logged) (logged : Logged) : Type 0 where
  pub earlier : List ℕ
  pub later : List ℕ
  pub parts : segments ≡ earlier ++ file ∷ later
  pub whole : List (List Logged)
  pub have : HasSegments files earlier whole
  pub here : List Logged
  pub records : List (List ℕ)
  pub are : AreRecords here records
  pub body : List ℕ
  pub spells : SpellsRecord logged.number logged.entry body
  pub behind : List (List ℕ)
  pub log : HasFile files file (IsLog (records ++ body ∷ behind))
  pub all : before ≡ joined whole ++ here
  pub gate : offset ≡ length (spelled records)

-- An entry past the floor may not stand behind those past it before it, each of which may stand behind those before it. No points are in
-- TSM files.
pub record IsRefused (series : List (List ℕ)) (floor : ℕ) (before : List Logged) (logged : Logged) : Type 0 where
  pub past_floor : floor < logged.number
  pub taken : AreTaken series no_points (entries_past floor before)
  pub refused : IsTaken series (after no_points (entries_past floor before)) logged.entry → ⊥

-- such an entry stands at this offset of this file
pub record RefusesAt (series : List (List ℕ)) (floor : ℕ) (files : Directory) (segments : List ℕ) (file offset : ℕ) : Type 0 where
  pub before : List Logged
  pub logged : Logged
  pub stands : StandsAt files segments file offset before logged
  pub is : IsRefused series floor before logged

-- The segments are sound and their entries counted, and one of these is refused: it is told at the gate of its record.
pub record IsWrongEntry (damage : Damage) (series : List (List ℕ)) (floor : ℕ) (files : Directory) (segments : List ℕ) : Type 0 where
  pub logged : List (List Logged)
  pub have : HasSegments files segments logged
  pub counted : AreCounted floor (joined logged)
  pub refuses : RefusesAt series floor files segments damage.file damage.offset
  pub why : damage.why ≡ Body

-- ---- what is wrong first

-- behind a series file of these series: the segments in order, and then an entry
abbrev pub IsWrongBehind : Damage → Named → List (List ℕ) → Directory → Type 0
IsWrongBehind damage named series files = IsWrongLog damage named.floor files named.segments ⊎ IsWrongEntry damage series named.floor files named.segments

-- behind the manifest: the series file, and then the entries
abbrev pub IsWrongNamed : Damage → Named → ℕ → Directory → Type 0
IsWrongNamed damage named file files =
    IsMissing damage files file
    ⊎ HasFile files file (IsWrongSeries file damage)
    ⊎ ((series : List (List ℕ)) × HasFile files file (IsSeriesFile series) × IsWrongBehind damage named series files)

-- The order in which damage is told: the manifest; what it names; and then what is named.
abbrev pub IsFirstDamage : Damage → Directory → Type 0
IsFirstDamage damage files =
    Reads files (Err damage)
    ⊎ ((named : Named) × HasFile files manifest (IsManifest named)
    × (HasNoForm damage named ⊎ ((file : ℕ) × (named.series ≡ Some file) × (named.files ≡ []) × IsWrongNamed damage named file files)))
