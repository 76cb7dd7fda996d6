-- What a change of one file leaves of the others.
use Rattle.std.proofs.Common.{◌≢◌, ℕ, List, [], ◌∷◌, sym, subst, Option, None}
use Rattle.std.specs.Prelude.{IsSomeAnd, nat_lt, true, false, if◌then◌else◌}
use Rattle.shard_disk.specs.Crash.{Crashes, Everywhere, Leaves}
use Rattle.shard_disk.specs.Directory.{ChangesAt, Directory, HasFile, Step}
use Rattle.gate_log.specs.declared.log.Log.{Log}
use Rattle.gate_log.specs.Log.{Stands}
use Rattle.wal_store.specs.Replay.{IsSegment, Logged}
use Rattle.file_table.specs.Files.{row_numbers_of}
use Rattle.file_table.specs.declared.row.FileRow.{FileRow}
use Rattle.point_model.specs.Points.{Points}
use Rattle.shard_state.specs.Layers.{HasLayers, IsLayer, by_age, with_row}
use Rattle.shard_state.specs.Books.{HasClosedSegments, IsApart, IsClosedLog}
use Rattle.manifest_log.specs.declared.directory.Directory.{Directory as Named}
use Rattle.manifest_log.specs.Reading.{bodies_of}
use Rattle.shard_state.specs.Keeping.{KeepsEarlier, KeepsLayers, KeepsManifest, KeepsSeriesFile}

pub file_elsewhere : (file changed : ℕ) (step : Step) (P : List ℕ → Type 0) (d c : Directory) → file ≢ changed → ChangesAt changed step d c → HasFile d file P → HasFile c file P
file_elsewhere file changed step P d c apart made had = subst (λ (o : Option (List ℕ)). IsSomeAnd o P) (sym (made.others file apart)) had

pub segments_elsewhere : (changed : ℕ) (step : Step) (segments : List ℕ) (logged : List (List Logged)) (d c : Directory) → IsApart changed segments → ChangesAt changed step d c
    → HasClosedSegments d segments logged → HasClosedSegments c segments logged
segments_elsewhere changed step [] [] d c apart made had = had
segments_elsewhere changed step [] (l ∷ logged) d c apart made had = had
segments_elsewhere changed step (file ∷ segments) [] d c apart made had = had
segments_elsewhere changed step (file ∷ segments) (l ∷ logged) d c apart made had =
    (file_elsewhere file changed step (IsClosedLog (IsSegment l)) d c apart.0 made had.0, segments_elsewhere changed step segments logged d c apart.1 made had.1)

pub layers_elsewhere : (changed : ℕ) (step : Step) (rows : List FileRow) (layers : List Points) (d c : Directory) → IsApart changed (row_numbers_of rows) → ChangesAt changed step d c → HasLayers d rows layers → HasLayers c rows layers
layers_elsewhere changed step [] [] d c apart made had = had
layers_elsewhere changed step [] (l ∷ layers) d c apart made had = had
layers_elsewhere changed step (row ∷ rows) [] d c apart made had = had
layers_elsewhere changed step (row ∷ rows) (l ∷ layers) d c apart made had = (file_elsewhere row.no changed step (IsLayer row l) d c apart.0 made had.0, layers_elsewhere changed step rows layers d c apart.1 made had.1)

-- rows that are apart are so in any order
apart_with : (changed : ℕ) (row : FileRow) (rows : List FileRow) → row.no ≢ changed → IsApart changed (row_numbers_of rows) → IsApart changed (row_numbers_of (with_row row rows))
apart_with changed row [] here apart = (here, tt)
apart_with changed row (other ∷ rows) here apart = elim (nat_lt row.generation other.generation) as (λ b. IsApart changed (row_numbers_of (if b then row ∷ other ∷ rows else other ∷ with_row row rows)))
    [ true ↦ (here, apart) | false ↦ (apart.0, apart_with changed row rows here apart.1) ]

pub apart_by_age : (changed : ℕ) (rows : List FileRow) → IsApart changed (row_numbers_of rows) → IsApart changed (row_numbers_of (by_age rows))
apart_by_age changed [] apart = tt
apart_by_age changed (row ∷ rows) apart = apart_with changed row (by_age rows) apart.0 (apart_by_age changed rows apart.1)

module _ (changed : ℕ) (step more : Step) (files files' : Directory) (crashes crashes' : Crashes) (made : ChangesAt changed step files files') (run : Leaves (ChangesAt changed more) crashes crashes') where
  pub everywhere_elsewhere : (file : ℕ) (P : List ℕ → Type 0) → file ≢ changed → Everywhere files crashes file P → Everywhere files' crashes' file P
  everywhere_elsewhere file P apart had = record {
    read = file_elsewhere file changed step P files files' apart made had.read;
    left = λ c now. let from = run.now c now in file_elsewhere file changed more P from.0 c apart from.2 (had.left from.0 from.1);
  }

  pub stands_elsewhere : (log : Log) (records : List (List ℕ)) (doubt : Option (List ℕ)) → log.file ≢ changed → Stands files crashes log records doubt → Stands files' crashes' log records doubt
  stands_elsewhere log records doubt apart had = record { place = had.place; file = everywhere_elsewhere log.file _ apart had.file }

  pub earlier_elsewhere : (segments : List ℕ) (logged : List (List Logged)) → IsApart changed segments → KeepsEarlier files crashes segments logged → KeepsEarlier files' crashes' segments logged
  earlier_elsewhere [] [] apart had = had
  earlier_elsewhere [] (l ∷ logged) apart had = had
  earlier_elsewhere (file ∷ segments) [] apart had = had
  earlier_elsewhere (file ∷ segments) (l ∷ logged) apart had = (everywhere_elsewhere file (IsClosedLog (IsSegment l)) apart.0 had.0, earlier_elsewhere segments logged apart.1 had.1)

  pub keeps_layers_elsewhere : (rows : List FileRow) (layers : List Points) → IsApart changed (row_numbers_of rows) → KeepsLayers files crashes rows layers → KeepsLayers files' crashes' rows layers
  keeps_layers_elsewhere [] [] apart had = had
  keeps_layers_elsewhere [] (l ∷ layers) apart had = had
  keeps_layers_elsewhere (row ∷ rows) [] apart had = had
  keeps_layers_elsewhere (row ∷ rows) (l ∷ layers) apart had = (everywhere_elsewhere row.no (IsLayer row l) apart.0 had.0, keeps_layers_elsewhere rows layers apart.1 had.1)

  pub manifest_elsewhere : (log : Log) (named : Named) → log.file ≢ changed → KeepsManifest files crashes log named → KeepsManifest files' crashes' log named
  manifest_elsewhere log named apart had = record {
    edits = had.edits;
    some = had.some;
    lead = had.lead;
    segment = had.segment;
    file = had.file;
    gate = had.gate;
    stands = stands_elsewhere log (bodies_of had.edits) None apart had.stands;
  }

  pub series_elsewhere : (log : Log) (file : ℕ) (series : List (List ℕ)) → log.file ≢ changed → KeepsSeriesFile files crashes log file series → KeepsSeriesFile files' crashes' log file series
  series_elsewhere log file series apart had = record {
    records = had.records;
    doubt = had.doubt;
    own = had.own;
    hold = had.hold;
    doubts = had.doubts;
    gate = had.gate;
    stands = stands_elsewhere log had.records had.doubt apart had.stands;
  }
