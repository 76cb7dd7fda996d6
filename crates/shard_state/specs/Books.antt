-- What does an engine know of the files of its directory, and what may a crash leave of them?
use Rattle.std.specs.Prelude.{◌≡◌, ◌≢◌, ◌⊎◌, ℕ, ◌+◌, ◌<◌, List, [], ◌∷◌, ◌++◌, Some}
use Rattle.std.specs.List.{AllByRecursion}
use Rattle.shard_disk.specs.Directory.{Directory, HasFile}
use Rattle.gate_log.specs.Records.{IsClosed}
use Rattle.point_model.specs.Histories.{State}
use Rattle.point_model.specs.Points.{Points}
use Rattle.point_model.specs.declared.entry.Entry.{Entry}
use Rattle.manifest_log.specs.declared.directory.Directory.{Directory as Named}
use Rattle.manifest_log.specs.Reading.{IsManifest, manifest}
use Rattle.series_store.specs.Reading.{IsSeriesFile}
use Rattle.wal_store.specs.Replay.{IsSegment, Logged}
use Rattle.wal_store.specs.Segments.{last_number}
use Rattle.file_table.specs.Files.{row_numbers_of}
use Rattle.shard_state.specs.Layers.{HasLayers, by_age}
use Rattle.shard_state.specs.Meaning.{IsSound, IsTaken, Meaning, state_of}

-- The parts of a meaning by the files that have them: what the manifest names; the series file and its series; the segments but the
-- last, with their entries, and the last with its own; the entries past the floor; the points of each TSM file.
pub record Books : Type 0 where
  pub named : Named
  pub series_file : ℕ
  pub series : List (List ℕ)
  pub before : List ℕ
  pub earlier : List (List Logged)
  pub last : ℕ
  pub latest : List Logged
  pub entries : List Entry
  pub layers : List Points

abbrev pub meaning_of : Books → Meaning
meaning_of books = record { named = books.named; series = books.series; layers = books.layers; segments = books.earlier ++ books.latest ∷ []; entries = books.entries }

abbrev pub state_in : Books → State
state_in books = state_of (meaning_of books)

-- the file is none of these
abbrev pub IsApart : ℕ → List ℕ → Type 0
IsApart file files = AllByRecursion (λ other. other ≢ file) files

-- the logs are files of their own
pub record AreApart (books : Books) : Type 0 where
  pub series_manifest : manifest ≢ books.series_file
  pub last_manifest : manifest ≢ books.last
  pub last_series : books.series_file ≢ books.last
  pub series_before : IsApart books.series_file books.before
  pub last_before : IsApart books.last books.before
  pub manifest_before : IsApart manifest books.before
  pub series_rows : IsApart books.series_file (row_numbers_of books.named.files)
  pub last_rows : IsApart books.last (row_numbers_of books.named.files)
  pub manifest_rows : IsApart manifest (row_numbers_of books.named.files)

-- the parts are those of the manifest, and what they say holds together
pub record AreBooks (books : Books) : Type 0 where
  pub segments : books.named.segments ≡ books.before ++ books.last ∷ []
  pub series : books.named.series ≡ Some books.series_file
  pub apart : AreApart books
  pub sound : IsSound (meaning_of books)

-- more series behind those that are held
abbrev pub with_series : Books → List (List ℕ) → Books
with_series books more = record books { series = books.series ++ more }

-- an entry with the next number
abbrev pub next_logged : Books → Entry → Logged
next_logged books entry = record { number = (state_in books).number + 1; entry = entry }

-- the next entry, in the last segment
abbrev pub with_entry : Books → Entry → Books
with_entry books entry = record books { latest = books.latest ++ next_logged books entry ∷ []; entries = books.entries ++ entry ∷ [] }

-- an entry that may be the next one
pub record IsNext (books : Books) (entry : Entry) : Type 0 where
  pub taken : IsTaken books.series (state_in books).points entry
  pub limit : (state_in books).number < last_number

-- the bytes are so, and a closed gate ends the log
abbrev pub IsClosedLog : (List ℕ → Type 0) → List ℕ → Type 0
IsClosedLog P bytes = P bytes × IsClosed bytes

-- the bytes are a file of these series, or of more
abbrev pub IsSeriesFrom : List (List ℕ) → List ℕ → Type 0
IsSeriesFrom series bytes = (more : List (List ℕ)) × IsSeriesFile (series ++ more) bytes

-- the bytes are the last segment, with at most one entry more, which is one of these
abbrev pub IsLatest : Books → List Entry → List ℕ → Type 0
IsLatest books [] bytes = IsSegment books.latest bytes
IsLatest books (entry ∷ entries) bytes = IsSegment (books.latest ++ next_logged books entry ∷ []) bytes ⊎ IsLatest books entries bytes

-- each file is a closed segment of these entries
abbrev pub HasClosedSegments : Directory → List ℕ → List (List Logged) → Type 0
HasClosedSegments files [] [] = Unit {0}
HasClosedSegments files [] (logged ∷ others) = ⊥
HasClosedSegments files (file ∷ segments) [] = ⊥
HasClosedSegments files (file ∷ segments) (logged ∷ others) = HasFile files file (IsClosedLog (IsSegment logged)) × HasClosedSegments files segments others

-- What a crash may leave: the parts, with series more, and with at most one entry more, which is one of these.
pub record IsImage (books : Books) (next : List Entry) (files : Directory) : Type 0 where
  pub manifest : HasFile files manifest (IsClosedLog (IsManifest books.named))
  pub series : HasFile files books.series_file (IsClosedLog (IsSeriesFrom books.series))
  pub layers : HasLayers files (by_age books.named.files) books.layers
  pub earlier : HasClosedSegments files books.before books.earlier
  pub latest : HasFile files books.last (IsClosedLog (IsLatest books next))
