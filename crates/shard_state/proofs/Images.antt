-- What a crash leaves of an engine's files is an image of its books.
use Rattle.std.proofs.Common.{◌≡◌, inl, inr, ⊎_elim, ℕ, ◌+◌, ◌<◌, ◌^◌, List, [], ◌∷◌, ◌++◌, length, sym, ap, ◌∙◌, subst, arith, length-append, Option, Some, None}
use Rattle.std.specs.List.{AllByRecursion}
use Rattle.std.specs.Prelude.{IfSome}
use Rattle.std.specs.Option.{option_to_list}
use Rattle.std.proofs.lemmas.List.{append-nil}
use Rattle.fixed_width.specs.Fields.{bytes_of_u64}
use Rattle.fixed_width.proofs.Fronts.{length-u64}
use Rattle.shard_disk.specs.Crash.{Crashes}
use Rattle.shard_disk.specs.Directory.{ChangesAt, Directory, Ends, HasFile}
use Rattle.shard_disk.proofs.Everywhere.{file_weaker}
use Rattle.gate_log.specs.declared.log.Log.{Log}
use Rattle.gate_log.specs.Log.{EndsBy, HasGate, Stands, doubtful}
use Rattle.gate_log.specs.Records.{AllFit, IsClosed, IsGated, Spells, WithAtMost}
use Rattle.gate_log.proofs.Settling.{counts_as}
use Rattle.point_model.specs.Points.{Points}
use Rattle.point_model.specs.declared.entry.Entry.{Entry}
use Rattle.file_table.specs.declared.row.FileRow.{FileRow}
use Rattle.manifest_log.specs.declared.directory.Directory.{Directory as Named}
use Rattle.manifest_log.specs.Reading.{IsManifest, bodies_of, manifest}
use Rattle.manifest_log.proofs.OnceLemmas.{gated_manifest, lead_fit}
use Rattle.series_store.specs.Calls.{Kept}
use Rattle.series_store.specs.Format.{record_bytes}
use Rattle.series_store.specs.Lists.{Hold}
use Rattle.series_store.specs.Reading.{IsSeriesFile}
use Rattle.series_store.proofs.HoldLemmas.{hold_fit, one_record_more}
use Rattle.series_store.proofs.OnceLemmas.{records_file}
use Rattle.wal_store.specs.Replay.{AreRecords, IsSegment, Logged}
use Rattle.wal_store.specs.Segments.{Segments, SpellsRecord}
use Rattle.wal_store.proofs.ReplayLemmas.{are_more}
use Rattle.shard_state.specs.Books.{AreBooks, Books, HasClosedSegments, IsClosedLog, IsImage, IsLatest, IsSeriesFrom, next_logged, state_in}
use Rattle.shard_state.specs.Keeping.{KeepsLayers, IsEntryDoubt, IsSeriesDoubt, Keeps, KeepsEarlier, KeepsLatest, KeepsManifest, KeepsSeriesFile}
use Rattle.shard_state.specs.Layers.{HasLayers, by_age}
use Rattle.shard_state.proofs.Elsewhere.{apart_by_age, file_elsewhere, layers_elsewhere, segments_elsewhere}

-- a log with a gate, in a crash now
pub log_image : (files : Directory) (crashes : Crashes) (log : Log) (records : List (List ℕ)) (doubt : Option (List ℕ)) (file : ℕ) (P : List ℕ → Type 0) → log.file ≡ file → HasGate log → Stands files crashes log records doubt
    → ((bytes : List ℕ) → WithAtMost records (doubtful doubt) bytes → P bytes) → (c : Directory) → crashes.now c → HasFile c file P
log_image files crashes log records doubt file P own gate stands so c now =
    subst (λ (n : ℕ). HasFile c n P) own
    (file_weaker log.file (Spells records (EndsBy log.gate doubt)) P (λ bytes is. so bytes (counts_as log.gate records doubt gate bytes is)) c (stands.file.left c now))

pub closed : (records : List (List ℕ)) (bytes : List ℕ) → AllFit records → IsGated records bytes → IsClosed bytes
closed records bytes fit gated = record { records = records; fit = fit; gated = gated }

pub manifest_image : (files : Directory) (crashes : Crashes) (log : Log) (named : Named) → KeepsManifest files crashes log named → (c : Directory) → crashes.now c → HasFile c manifest (IsClosedLog (IsManifest named))
manifest_image files crashes log named keeps c now =
    log_image files crashes log (bodies_of keeps.edits) None manifest (IsClosedLog (IsManifest named)) keeps.file keeps.gate keeps.stands
    (λ bytes is. (gated_manifest bytes keeps.edits named keeps.some keeps.lead keeps.segment is, closed (bodies_of keeps.edits) bytes (lead_fit keeps.edits keeps.lead.written) is)) c now

pub closed_series : (records series : List (List ℕ)) (bytes : List ℕ) → Hold records series → IsGated records bytes → IsClosedLog (IsSeriesFile series) bytes
closed_series records series bytes hold gated = (records_file bytes records series hold gated, closed records bytes (hold_fit records [] series hold) gated)

-- records of series, with at most one of these more
pub series_at_most : (records series : List (List ℕ)) (bodies : List (List ℕ)) → Hold records series → AllByRecursion (IsSeriesDoubt series) bodies → (bytes : List ℕ) → WithAtMost records bodies bytes → IsClosedLog (IsSeriesFrom series) bytes
series_at_most records series [] hold doubts bytes is =
    let file = closed_series records series bytes hold is in (([], subst (λ (s : List (List ℕ)). IsSeriesFile s bytes) (sym (append-nil series)) file.0), file.1)
series_at_most records series (body ∷ bodies) hold doubts bytes is =
    ⊎_elim
    (λ longer.
    let d = doubts.0 in
    let file = closed_series (records ++ record_bytes d.0 ∷ []) (series ++ d.0) bytes (one_record_more records series d.0 hold d.2 d.3) (subst (λ (b : List ℕ). IsGated (records ++ b ∷ []) bytes) d.1 longer) in
    ((d.0, file.0), file.1))
    (λ rest. series_at_most records series bodies hold doubts.1 bytes rest) is

pub series_doubts : (series : List (List ℕ)) (files : Directory) (crashes : Crashes) (log : Log) (file : ℕ) (keeps : KeepsSeriesFile files crashes log file series) → AllByRecursion (IsSeriesDoubt series) (doubtful keeps.doubt)
series_doubts series files crashes log file keeps = of keeps.doubt keeps.doubts
  where
    of : (doubt : Option (List ℕ)) → IfSome doubt (IsSeriesDoubt series) → AllByRecursion (IsSeriesDoubt series) (doubtful doubt)
    of None doubts = tt
    of (Some body) doubts = (doubts, tt)

pub series_image : (files : Directory) (crashes : Crashes) (log : Log) (file : ℕ) (series : List (List ℕ)) → KeepsSeriesFile files crashes log file series → (c : Directory) → crashes.now c → HasFile c file (IsClosedLog (IsSeriesFrom series))
series_image files crashes log file series keeps c now =
    log_image files crashes log keeps.records keeps.doubt file (IsClosedLog (IsSeriesFrom series)) keeps.own keeps.gate keeps.stands
    (series_at_most keeps.records series (doubtful keeps.doubt) keeps.hold (series_doubts series files crashes log file keeps)) c now

record_fits : (number : ℕ) (entry : Entry) (body : List ℕ) → SpellsRecord number entry body → length body < 2 ^ 32
record_fits number entry body spells =
    let size : length body ≡ length (bytes_of_u64 number) + length spells.body = ap (λ (l : List ℕ). length l) spells.whole ∙ length-append (bytes_of_u64 number) spells.body in
    omega (arith, size, length-u64 number, spells.spells.short)

pub records_fit : (logged : List Logged) (records : List (List ℕ)) → AreRecords logged records → AllFit records
records_fit [] [] are = tt
records_fit [] (body ∷ records) are = absurd are
records_fit (l ∷ logged) [] are = tt
records_fit (l ∷ logged) (body ∷ records) are = (record_fits l.number l.entry body are.0, records_fit logged records are.1)

pub is_segment : (logged : List Logged) (records : List (List ℕ)) (bytes : List ℕ) → AreRecords logged records → IsGated records bytes → IsClosedLog (IsSegment logged) bytes
is_segment logged records bytes are gated =
    let fit = records_fit logged records are in
    ((records, are, fit, record { rest = gated.rest; spelling = gated.spelling; ending = inr gated.ending }), closed records bytes fit gated)

-- these are the bodies of these entries, each with the next number
abbrev pub AreNextRecords : Books → List Entry → List (List ℕ) → Type 0
AreNextRecords books [] [] = Unit {0}
AreNextRecords books [] (body ∷ bodies) = ⊥
AreNextRecords books (entry ∷ entries) [] = ⊥
AreNextRecords books (entry ∷ entries) (body ∷ bodies) = SpellsRecord ((state_in books).number + 1) entry body × AreNextRecords books entries bodies

pub latest_at_most : (books : Books) (records : List (List ℕ)) (entries : List Entry) (bodies : List (List ℕ)) → AreRecords books.latest records → AreNextRecords books entries bodies → (bytes : List ℕ) → WithAtMost records bodies bytes
    → IsClosedLog (IsLatest books entries) bytes
latest_at_most books records [] [] are next bytes is = is_segment books.latest records bytes are is
latest_at_most books records [] (body ∷ bodies) are next bytes is = absurd next
latest_at_most books records (entry ∷ entries) [] are next bytes is = absurd next
latest_at_most books records (entry ∷ entries) (body ∷ bodies) are next bytes is =
    ⊎_elim
    (λ longer.
    let file = is_segment (books.latest ++ next_logged books entry ∷ []) (records ++ body ∷ []) bytes (are_more books.latest records (next_logged books entry) body are next.0) longer in (inl file.0, file.1))
    (λ rest. let file = latest_at_most books records entries bodies are next.1 bytes rest in (inr file.0, file.1)) is

pub next_records : (books : Books) (doubt : Option Entry) (body : Option (List ℕ)) → IsEntryDoubt books doubt body → AreNextRecords books (option_to_list doubt) (doubtful body)
next_records books None None doubts = tt
next_records books None (Some body) doubts = absurd doubts
next_records books (Some entry) None doubts = absurd doubts
next_records books (Some entry) (Some body) doubts = (doubts.0, tt)

pub latest_image : (files : Directory) (crashes : Crashes) (log : Log) (books : Books) (doubt : Option Entry) → KeepsLatest files crashes log books doubt → (c : Directory) → crashes.now c → HasFile c books.last (IsClosedLog (IsLatest books (option_to_list doubt)))
latest_image files crashes log books doubt keeps c now =
    log_image files crashes log keeps.records keeps.body books.last (IsClosedLog (IsLatest books (option_to_list doubt))) keeps.own keeps.gate keeps.stands
    (latest_at_most books keeps.records (option_to_list doubt) (doubtful keeps.body) keeps.are (next_records books doubt keeps.body keeps.doubts)) c now

pub earlier_image : (files : Directory) (crashes : Crashes) (segments : List ℕ) (logged : List (List Logged)) → KeepsEarlier files crashes segments logged → (c : Directory) → crashes.now c → HasClosedSegments c segments logged
earlier_image files crashes [] [] keeps c now = tt
earlier_image files crashes [] (l ∷ logged) keeps c now = keeps
earlier_image files crashes (file ∷ segments) [] keeps c now = keeps
earlier_image files crashes (file ∷ segments) (l ∷ logged) keeps c now = (keeps.0.left c now, earlier_image files crashes segments logged keeps.1 c now)

pub layers_image : (files : Directory) (crashes : Crashes) (rows : List FileRow) (layers : List Points) → KeepsLayers files crashes rows layers → (c : Directory) → crashes.now c → HasLayers c rows layers
layers_image files crashes [] [] keeps c now = tt
layers_image files crashes [] (l ∷ layers) keeps c now = keeps
layers_image files crashes (row ∷ rows) [] keeps c now = keeps
layers_image files crashes (row ∷ rows) (l ∷ layers) keeps c now = (keeps.0.left c now, layers_image files crashes rows layers keeps.1 c now)

-- what a crash now leaves
pub image_now : (files : Directory) (crashes : Crashes) (log : Log) (series : Kept) (wal : Segments) (books : Books) (doubt : Option Entry) → Keeps files crashes log series wal books doubt → (c : Directory) → crashes.now c
    → IsImage books (option_to_list doubt) c
image_now files crashes log series wal books doubt keeps c now = record {
  manifest = manifest_image files crashes log books.named keeps.manifest c now;
  series = series_image files crashes series.log books.series_file books.series keeps.series c now;
  layers = layers_image files crashes (by_age books.named.files) books.layers keeps.layers c now;
  earlier = earlier_image files crashes books.before books.earlier keeps.earlier c now;
  latest = latest_image files crashes wal.log books doubt keeps.latest c now;
}

-- one log is changed, and what it is then is so
module _ (books : Books) (next : List Entry) (sound : AreBooks books) (d c : Directory) (image : IsImage books next d) where
  pub series_changes : ChangesAt books.series_file (Ends (IsClosedLog (IsSeriesFrom books.series))) d c → IsImage books next c
  series_changes made = record {
    manifest = file_elsewhere manifest books.series_file _ (IsClosedLog (IsManifest books.named)) d c sound.apart.series_manifest made image.manifest;
    series = made.here;
    layers = layers_elsewhere books.series_file _ (by_age books.named.files) books.layers d c (apart_by_age books.series_file books.named.files sound.apart.series_rows) made image.layers;
    earlier = segments_elsewhere books.series_file _ books.before books.earlier d c sound.apart.series_before made image.earlier;
    latest = file_elsewhere books.last books.series_file _ (IsClosedLog (IsLatest books next)) d c (λ e. sound.apart.last_series (sym e)) made image.latest;
  }

  pub latest_changes : (more : List Entry) → ChangesAt books.last (Ends (IsClosedLog (IsLatest books more))) d c → IsImage books more c
  latest_changes more made = record {
    manifest = file_elsewhere manifest books.last _ (IsClosedLog (IsManifest books.named)) d c sound.apart.last_manifest made image.manifest;
    series = file_elsewhere books.series_file books.last _ (IsClosedLog (IsSeriesFrom books.series)) d c sound.apart.last_series made image.series;
    layers = layers_elsewhere books.last _ (by_age books.named.files) books.layers d c (apart_by_age books.last books.named.files sound.apart.last_rows) made image.layers;
    earlier = segments_elsewhere books.last _ books.before books.earlier d c sound.apart.last_before made image.earlier;
    latest = made.here;
  }
