-- What was read of a directory opens it.
use Rattle.std.proofs.Common.{◌≡◌, inl, inr, ⊎_elim, ℕ, ◌+◌, List, [], ◌∷◌, ◌++◌, length, refl, sym, ap, ◌∙◌, subst, arith, Option, None, Some, IsTrue}
use Rattle.std.specs.Prelude.{IsSomeAnd, Ok}
use Rattle.std.specs.declared.alloc.Global.{Global}
use Rattle.shard_disk.specs.Crash.{Crashes, Leaves, Same}
use Rattle.shard_disk.specs.Directory.{Directory, HasFile}
use Rattle.shard_disk.specs.HandedOut.{HandedOut, KeepsAdopted}
use Rattle.shard_disk.specs.declared.disk.Disk.{Ghosts}
use Rattle.shard_disk.proofs.Everywhere.{file_weaker}
use Rattle.gate_log.specs.Damage.{IsLog}
use Rattle.gate_log.specs.Log.{FoundBy, IsPlaced}
use Rattle.gate_log.specs.Records.{IsGated, Spells}
use Rattle.gate_log.proofs.Unique.{found_log, gated_log}
use Rattle.point_model.specs.Histories.{State, after}
use Rattle.point_model.specs.Points.{Points, no_points}
use Rattle.point_model.specs.declared.entry.Entry.{Entry}
use Rattle.manifest_log.specs.declared.directory.Directory.{Directory as Named}
use Rattle.manifest_log.specs.declared.manifest.Manifest.{Manifest}
use Rattle.manifest_log.specs.Calls.{Finds as FindsNamed}
use Rattle.manifest_log.specs.Reading.{IsFresh, IsManifest, bodies_of, manifest}
use Rattle.manifest_log.proofs.OnceLemmas.{one_reading}
use Rattle.series_store.specs.Calls.{Finds, Kept}
use Rattle.series_store.specs.Reading.{IsSeriesFile}
use Rattle.file_table.specs.declared.row.FileRow.{FileRow}
use Rattle.wal_store.specs.Segments.{Segments}
use Rattle.shard_state.specs.Books.{Books}
use Rattle.shard_state.specs.Engine.{AreAdopted}
use Rattle.shard_state.specs.Keeping.{Keeps}
use Rattle.shard_state.specs.Layers.{HasLayers, by_age}
use Rattle.shard_state.specs.Meaning.{AreTaken, Meaning}
use Rattle.shard_state.specs.Opening.{IsBlankAtOpening, IsNamedAtOpening, IsSoundAtOpening}
use Rattle.shard_recover.specs.Opening.{OpensParts, ReadsLogs, ReadyParts}
use Rattle.shard_recover.specs.Standing.{Stood}
use Rattle.shard_recover.specs.declared.parts.Parts.{Parts}
use Rattle.shard_recover.proofs.NamedLemmas.{named_apart}
use Rattle.shard_recover.proofs.OpeningLemmas.{read_adopted, read_books, read_keeps, read_layers, read_state, replays_have, replays_hold}

-- a manifest was read as such
pub found_manifest : (tells : Type 0) (told : tells) (found : Manifest) (named : Named) (files : Directory) (old new : Crashes) → FindsNamed tells found named files old new → HasFile files manifest (IsManifest named)
found_manifest tells told found named files old new m =
    file_weaker manifest (Spells (bodies_of m.edits) (FoundBy found.log.gate)) (IsManifest named)
    (λ bytes spells. record { edits = m.edits; some = m.some; log = found_log found.log.gate (bodies_of m.edits) bytes m.log.fit spells; lead = m.lead; segment = m.segment }) files (m.log.found told)

-- nothing is named yet
pub blank_fresh : (files : Directory) (crashes : Crashes) (handed : HandedOut) → IsBlankAtOpening files crashes handed → IsFresh files
blank_fresh files crashes handed blank = ⊎_elim (λ none. inl none.0) (λ file. inr (file_weaker manifest (IsGated []) (IsLog []) (λ bytes gated. gated_log [] bytes tt gated) files file.0)) blank

pub fresh_unnamed : (files : Directory) (named : Named) → IsFresh files → HasFile files manifest (IsManifest named) → ⊥
fresh_unnamed files named fresh is = cc (one_reading files (Ok None) (Ok (Some named)) fresh is)

-- so was a series file
pub found_series : (tells : Type 0) (told : tells) (file : ℕ) (kept : Kept) (files : Directory) (old new : Crashes) → Finds tells file kept files old new → HasFile files file (IsSeriesFile kept.keys)
found_series tells told file kept files old new s =
    file_weaker file (Spells s.records (FoundBy kept.log.gate)) (IsSeriesFile kept.keys)
    (λ bytes spells. record { records = s.records; log = found_log kept.log.gate s.records bytes s.log.fit spells; lead = s.hold }) files (s.log.found told)

-- what was read is ready for calls, whatever the disk tells
pub parts_ready : {D R W : Type 0} (g : Ghosts D R W) (alloc : Global) (disk : D) (parts : Parts) (entries : List Entry) (files : Directory) (c0 c1 : Crashes) → g.files disk ≡ files
    → FindsNamed (IsTrue g.tells) parts.manifest parts.named files c0 c1 → ReadsLogs (IsTrue g.tells) parts.named parts.series parts.wal entries files c0 c1 → ReadyParts g alloc disk parts
parts_ready g alloc disk parts entries files c0 c1 same m reads =
    let d = named_apart parts.named reads.replays.before reads.replays.file reads.file m.sound reads.replays.parts reads.is in
    let last : parts.wal.last ≡ parts.named.floor + length entries = ap (λ (x : Segments). x.last) reads.replays.wal_is in
    record {
      ready = record {
        manifest_placed = λ told. subst (λ (f : Directory). IsPlaced f parts.manifest.log) (sym same) (m.log.placed told);
        series_placed = λ told. subst (λ (f : Directory). IsPlaced f parts.series.log) (sym same) (reads.series.log.placed told);
        wal_placed = λ told. subst (λ (f : Directory). IsPlaced f parts.wal.log) (sym same) (reads.replays.log.placed told);
        series_manifest = λ told e. d.series_manifest (sym m.log.file ∙ e ∙ reads.series.log.file);
        wal_manifest = λ told e. d.last_manifest (sym m.log.file ∙ e ∙ reads.replays.log.file);
        wal_series = λ told e. d.last_series (sym reads.series.log.file ∙ e ∙ reads.replays.log.file);
        counted = refl;
        limit = omega (arith, last, reads.replays.holds.most);
      };
      manifest_file = m.log.file;
      series_file = reads.is ∙ ap (λ (n : ℕ). Some n) (sym reads.series.log.file);
      before = reads.replays.before;
      segments = reads.replays.parts ∙ ap (λ (n : ℕ). reads.replays.before ++ n ∷ []) (sym reads.replays.log.file);
    }

-- what was read of a directory that is sound as it is opened stands for its state
pub parts_open : {D R W : Type 0} (g : Ghosts D R W) (told : IsTrue g.tells) (alloc : Global) (old disk : D) (keeps : KeepsAdopted (g.files old) (g.crashes old) (g.handed_out old)) (parts : Parts) (entries : List Entry) (state : State)
    → g.files disk ≡ g.files old → g.handed_out disk ≡ g.handed_out old → Leaves Same (g.crashes old) (g.crashes disk)
    → FindsNamed (IsTrue g.tells) parts.manifest parts.named (g.files old) (g.crashes old) (g.crashes disk) → ReadsLogs (IsTrue g.tells) parts.named parts.series parts.wal entries (g.files old) (g.crashes old) (g.crashes disk)
    → IsSoundAtOpening g old state → OpensParts g state alloc disk parts
parts_open g told alloc old disk keeps parts entries state same handed run m reads sound =
    ⊎_elim (λ blank. absurd (fresh_unnamed (g.files old) parts.named (blank_fresh (g.files old) (g.crashes old) (g.handed_out old) blank.0) (found_manifest (IsTrue g.tells) told parts.manifest parts.named (g.files old) (g.crashes old) (g.crashes disk) m))) opened sound
  where
    opened : IsNamedAtOpening (g.files old) (g.crashes old) (g.handed_out old) state → OpensParts g state alloc disk parts
    opened s =
        let tells = IsTrue g.tells in
        let files = g.files old in
        let books : Books = read_books tells told files (g.crashes old) (g.crashes disk) (g.handed_out old) keeps state s parts.manifest parts.named m parts.series parts.wal entries reads run in
        record {
          opens = record {
            books = books;
            holds = record {
              keeps = subst (λ (f : Directory). Keeps f (g.crashes disk) parts.manifest.log parts.series parts.wal books None) (sym same)
                  (read_keeps tells told files (g.crashes old) (g.crashes disk) (g.handed_out old) keeps state s parts.manifest parts.named m parts.series parts.wal entries reads run);
              adopted = subst (λ (h : HandedOut). AreAdopted h parts.named) (sym handed)
                  (read_adopted tells told files (g.crashes old) (g.crashes disk) (g.handed_out old) keeps state s parts.manifest parts.named m parts.series parts.wal entries reads run);
              number = ap (λ (x : Segments). x.last) reads.replays.wal_is;
            };
            is = read_state tells told files (g.crashes old) (g.crashes disk) (g.handed_out old) keeps state s parts.manifest parts.named m parts.series parts.wal entries reads run;
            layers = read_layers tells told files (g.crashes old) (g.crashes disk) (g.handed_out old) keeps state s parts.manifest parts.named m parts.series parts.wal entries reads run;
          };
          named = refl;
        }

-- The files stand for what was read, where the entries may all stand.
pub parts_stand : (tells : Type 0) (told : tells) (parts : Parts) (entries : List Entry) (points : Points) (files : Directory) (c0 c1 : Crashes) → FindsNamed tells parts.manifest parts.named files c0 c1
    → ReadsLogs tells parts.named parts.series parts.wal entries files c0 c1 → AreTaken parts.series.keys no_points entries → points ≡ after no_points entries
    → Stood files (record { points = points; number = parts.wal.last }) parts.series.keys
parts_stand tells told parts entries points files c0 c1 m reads taken are = inr (record {
  meaning = meaning;
  says = record {
    manifest = found_manifest tells told parts.manifest parts.named files c0 c1 m;
    series = subst (λ (o : Option ℕ). IsSomeAnd o (λ file. HasFile files file (IsSeriesFile parts.series.keys))) (sym reads.is) series_file;
    layers = subst (λ (rows : List FileRow). HasLayers files (by_age rows) []) (sym reads.no_files) tt;
    segments = replays_have tells told parts.named.floor parts.named.segments parts.wal entries files c0 c1 reads.replays;
  };
  sound = record {
    holds = replays_hold tells parts.named.floor parts.named.segments parts.wal entries files c0 c1 reads.replays;
    taken = taken;
  };
  is = λ i. record { points = are i; number = ap (λ (x : Segments). x.last) reads.replays.wal_is i };
  series_are = refl;
})
  where
    meaning : Meaning
    meaning = record { named = parts.named; series = parts.series.keys; layers = []; segments = reads.replays.earlier ++ reads.replays.latest ∷ []; entries = entries }

    series_file : HasFile files reads.file (IsSeriesFile parts.series.keys)
    series_file = found_series tells told reads.file parts.series files c0 c1 reads.series
