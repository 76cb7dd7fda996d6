-- A directory that is sound as it is opened stands for what its logs are read as.
use Rattle.std.proofs.Common.{◌≡◌, ⊎_elim, ℕ, List, [], ◌∷◌, ◌++◌, map, refl, sym, ap, ◌∙◌, subst, Option, Some, None, IsSome, IsTrue}
use Rattle.std.proofs.lemmas.Bool.{false≢true}
use Rattle.std.proofs.lemmas.List.{append-nil}
use Rattle.std.proofs.lemmas.Grind.{flat_map-append}
use Rattle.std.specs.Prelude.{IsSomeAnd}
use Rattle.std.specs.FinMap.{get}
use Rattle.std.specs.List.{AllByRecursion}
use Rattle.shard_disk.specs.Crash.{Crashes, Everywhere, IsDurable, Leaves, Same}
use Rattle.shard_disk.specs.Directory.{Directory, HasFile, IsPresent}
use Rattle.shard_disk.specs.HandedOut.{HandedOut, KeepsAdopted}
use Rattle.shard_disk.proofs.Everywhere.{file_weaker}
use Rattle.series_store.proofs.ListLemmas.{all_left, all_right}
use Rattle.gate_log.specs.Log.{FoundBy}
use Rattle.gate_log.specs.Records.{IsClosed, Spells}
use Rattle.gate_log.proofs.Unique.{found_log}
use Rattle.gate_log.proofs.Reading.{reads_since, reads_then}
use Rattle.point_model.specs.Histories.{State}
use Rattle.point_model.specs.Points.{Points}
use Rattle.point_model.specs.declared.entry.Entry.{Entry}
use Rattle.file_table.specs.declared.row.FileRow.{FileRow}
use Rattle.manifest_log.specs.declared.directory.Directory.{Directory as Named}
use Rattle.manifest_log.specs.declared.manifest.Manifest.{Manifest}
use Rattle.manifest_log.specs.Calls.{Finds as FindsNamed}
use Rattle.manifest_log.specs.Reading.{IsManifest, bodies_of, manifest}
use Rattle.manifest_log.proofs.OnceLemmas.{one_manifest}
use Rattle.series_store.specs.Calls.{Finds, Kept}
use Rattle.series_store.specs.Reading.{IsSeriesFile}
use Rattle.series_store.proofs.OnceLemmas.{one_file}
use Rattle.wal_store.specs.Replay.{HasSegments, Holds, IsSegment, Logged, Replays, joined, past}
use Rattle.wal_store.specs.Segments.{Segments}
use Rattle.wal_store.proofs.OnceLemmas.{one_segment}
use Rattle.shard_state.specs.Books.{AreApart, AreBooks, Books, IsClosedLog}
use Rattle.shard_state.specs.Engine.{AreAdopted}
use Rattle.shard_state.specs.Keeping.{Keeps, KeepsEarlier, KeepsLayers}
use Rattle.shard_state.specs.Layers.{HasLayers, by_age}
use Rattle.shard_state.specs.Meaning.{IsSound, Meaning, OfLogs, state_of}
use Rattle.shard_state.specs.Opening.{IsNamedAtOpening}
use Rattle.shard_recover.specs.Opening.{IsBegun, ReadsLogs}
use Rattle.shard_recover.specs.declared.parts.Begun.{Begun}
use Rattle.shard_recover.proofs.FileLemmas.{same_then}
use Rattle.shard_recover.proofs.NamedLemmas.{named_apart, rows_apart}

pub some_at : {X : Type 0} (P : X → Type 0) (o : Option X) (v : X) → o ≡ Some v → IsSomeAnd o P → P v
some_at P o v is had = subst (λ o'. IsSomeAnd o' P) is had

-- two facts of one file
pub both : {R : Type 0} (P Q : List ℕ → Type 0) (files : Directory) (file : ℕ) → HasFile files file P → HasFile files file Q → ((bytes : List ℕ) → P bytes → Q bytes → R) → R
both {R} P Q files file p q f = of (get files file) p q
  where
    of : (o : Option (List ℕ)) → IsSomeAnd o P → IsSomeAnd o Q → R
    of None p q = absurd p
    of (Some bytes) p q = f bytes p q

both_at : (P Q : List ℕ → Type 0) (o : Option (List ℕ)) → IsSomeAnd o P → IsSomeAnd o Q → IsSomeAnd o (λ bytes. P bytes × Q bytes)
both_at P Q None p q = p
both_at P Q (Some bytes) p q = (p, q)

-- a file that every crash leaves, and leaves durable
everywhere_read : (files : Directory) (crashes : Crashes) (file : ℕ) (P : List ℕ → Type 0) → HasFile files file P → IsDurable files crashes file → ((c : Directory) → crashes.now c → IsPresent c file) → Everywhere files crashes file P
everywhere_read files crashes file P had durable present = record {
  read = had;
  left = λ c now. ⊎_elim (λ gone. absurd (subst (λ (o : Option (List ℕ)). IsSome o → ⊥) (sym gone) (λ e. false≢true e) (present c now))) (λ same. subst (λ (o : Option (List ℕ)). IsSomeAnd o P) (sym same) had) (durable c now);
}

keeps_earlier : (files : Directory) (old crashes : Crashes) → Leaves Same old crashes → (segments : List ℕ) (logged : List (List Logged)) → HasSegments files segments logged → AllByRecursion (λ n. HasFile files n IsClosed) segments → AllByRecursion (IsDurable files crashes) segments
    → ((c : Directory) → old.now c → AllByRecursion (IsPresent c) segments) → KeepsEarlier files crashes segments logged
keeps_earlier files old crashes run [] [] had closed durable present = tt
keeps_earlier files old crashes run [] (l ∷ logged) had closed durable present = had
keeps_earlier files old crashes run (file ∷ segments) [] had closed durable present = had
keeps_earlier files old crashes run (file ∷ segments) (l ∷ logged) had closed durable present = (
  everywhere_read files crashes file (IsClosedLog (IsSegment l)) (both_at (IsSegment l) IsClosed (get files file) had.0 closed.0) durable.0
      (λ c now. let from = run.now c now in subst (λ (d : Directory). IsPresent d file) (sym from.2) (present from.0 from.1).0),
  keeps_earlier files old crashes run segments logged had.1 closed.1 durable.1 (λ c now. (present c now).1),
)

no_layers_in : (files : Directory) (layers : List Points) → HasLayers files [] layers → layers ≡ []
no_layers_in files [] had = refl
no_layers_in files (l ∷ layers) had = absurd had

-- where no row is there, no layer is
pub no_layers : (files : Directory) (rows : List FileRow) (layers : List Points) → rows ≡ [] → HasLayers files (by_age rows) layers → layers ≡ []
no_layers files rows layers none had = no_layers_in files layers (subst (λ (r : List FileRow). HasLayers files (by_age r) layers) none had)

keeps_no_layers : (files : Directory) (crashes : Crashes) (rows : List FileRow) (layers : List Points) → rows ≡ [] → layers ≡ [] → KeepsLayers files crashes (by_age rows) layers
keeps_no_layers files crashes rows layers no_rows none =
    subst (λ (r : List FileRow). KeepsLayers files crashes (by_age r) layers) (sym no_rows) (subst (KeepsLayers files crashes []) (sym none) tt)

joined_last : (earlier : List (List Logged)) (latest : List Logged) → joined (earlier ++ latest ∷ []) ≡ joined earlier ++ latest
joined_last earlier latest = flat_map-append (λ (x : List Logged). x) earlier (latest ∷ []) ∙ ap (λ (x : List Logged). joined earlier ++ x) (append-nil latest)

-- segments have one list of entries each
pub segments_once : (files : Directory) (segments : List ℕ) (some other : List (List Logged)) → HasSegments files segments some → HasSegments files segments other → some ≡ other
segments_once files [] [] [] a b = refl
segments_once files [] [] (y ∷ other) a b = absurd b
segments_once files [] (x ∷ some) other a b = absurd a
segments_once files (file ∷ segments) [] other a b = absurd a
segments_once files (file ∷ segments) (x ∷ some) [] a b = absurd b
segments_once files (file ∷ segments) (x ∷ some) (y ∷ other) a b =
    let head = both (IsSegment x) (IsSegment y) files file a.0 b.0 (λ bytes p q. one_segment x y bytes p q) in
    let rest = segments_once files segments some other a.1 b.1 in
    λ i. head i ∷ rest i

segments_last : (files : Directory) (before : List ℕ) (earlier : List (List Logged)) (last : ℕ) (latest : List Logged) → HasSegments files before earlier → HasFile files last (IsSegment latest) → HasSegments files (before ++ last ∷ []) (earlier ++ latest ∷ [])
segments_last files [] [] last latest had here = (here, tt)
segments_last files [] (l ∷ earlier) last latest had here = absurd had
segments_last files (b ∷ before) [] last latest had here = absurd had
segments_last files (b ∷ before) (l ∷ earlier) last latest had here = (had.0, segments_last files before earlier last latest had.1 here)

-- what was read of the segments: they have these entries
pub replays_have : (tells : Type 0) (told : tells) (floor : ℕ) (segments : List ℕ) (wal : Segments) (entries : List Entry) (files : Directory) (crashes crashes' : Crashes) → (r : Replays tells floor segments wal entries files crashes crashes')
    → HasSegments files segments (r.earlier ++ r.latest ∷ [])
replays_have tells told floor segments wal entries files crashes crashes' r =
    subst (λ (l : List ℕ). HasSegments files l (r.earlier ++ r.latest ∷ [])) (sym r.parts) (segments_last files r.before r.earlier r.file r.latest (r.have told) latest_file)
  where
    latest_file : HasFile files r.file (IsSegment r.latest)
    latest_file =
        file_weaker r.file (Spells r.records (FoundBy wal.log.gate)) (IsSegment r.latest)
        (λ bytes spells. let log = found_log wal.log.gate r.records bytes r.log.fit spells in (r.records, r.are, log.0, log.1)) files (r.log.found told)

-- and those past the floor are these
pub replays_hold : (tells : Type 0) (floor : ℕ) (segments : List ℕ) (wal : Segments) (entries : List Entry) (files : Directory) (crashes crashes' : Crashes) → (r : Replays tells floor segments wal entries files crashes crashes')
    → Holds floor (joined (r.earlier ++ r.latest ∷ [])) entries
replays_hold tells floor segments wal entries files crashes crashes' r = subst (λ (l : List Logged). Holds floor l entries) (sym (joined_last r.earlier r.latest)) r.holds

pub each_of : (P Q : ℕ → Type 0) → ((n : ℕ) → P n → Q n) → (ns : List ℕ) → AllByRecursion P ns → AllByRecursion Q ns
each_of P Q leads [] all = tt
each_of P Q leads (n ∷ ns) all = (leads n all.0, each_of P Q leads ns all.1)

some_of : (P Q : ℕ → Type 0) → ((n : ℕ) → P n → Q n) → (o : Option ℕ) → IsSomeAnd o P → IsSomeAnd o Q
some_of P Q leads None had = had
some_of P Q leads (Some n) had = leads n had

-- what holds of each log
pub of_logs : (P Q : ℕ → Type 0) → ((n : ℕ) → P n → Q n) → (named : Named) → OfLogs P named → OfLogs Q named
of_logs P Q leads named all = record { first = leads manifest all.first; series = some_of P Q leads named.series all.series; segments = each_of P Q leads named.segments all.segments }

-- every crash leaves the logs that are adopted
logs_left : (files : Directory) (crashes : Crashes) (handed : HandedOut) (named : Named) → KeepsAdopted files crashes handed → AreAdopted handed named → (c : Directory) → crashes.now c → OfLogs (IsPresent c) named
logs_left files crashes handed named keeps adopted c now = of_logs (λ file. IsTrue (handed.adopted file)) (IsPresent c) (λ n is. keeps.left n is c now) named adopted

module _ (tells : Type 0) (told : tells) (files : Directory) (c0 c3 : Crashes) (handed : HandedOut) (keeps_adopted : KeepsAdopted files c0 handed) (state : State) (sound : IsNamedAtOpening files c0 handed state) (found : Manifest) (named : Named)
    (m : FindsNamed tells found named files c0 c3) (kept : Kept) (wal : Segments) (entries : List Entry) (reads : ReadsLogs tells named kept wal entries files c0 c3) (run : Leaves Same c0 c3) where
  abbrev file : ℕ
  file = reads.file

  manifest_file : HasFile files manifest (IsManifest named)
  manifest_file =
      file_weaker manifest (Spells (bodies_of m.edits) (FoundBy found.log.gate)) (IsManifest named)
      (λ bytes spells. record { edits = m.edits; some = m.some; log = found_log found.log.gate (bodies_of m.edits) bytes m.log.fit spells; lead = m.lead; segment = m.segment }) files (m.log.found told)

  same_named : named ≡ sound.stands.meaning.named
  same_named = both (IsManifest named) (IsManifest sound.stands.meaning.named) files manifest manifest_file sound.stands.says.manifest (λ bytes p q. one_manifest bytes named sound.stands.meaning.named p q)

  series_file : HasFile files file (IsSeriesFile kept.keys)
  series_file =
      file_weaker file (Spells reads.series.records (FoundBy kept.log.gate)) (IsSeriesFile kept.keys)
      (λ bytes spells. record { records = reads.series.records; log = found_log kept.log.gate reads.series.records bytes reads.series.log.fit spells; lead = reads.series.hold }) files (reads.series.log.found told)

  same_series : kept.keys ≡ sound.stands.meaning.series
  same_series =
      both (IsSeriesFile kept.keys) (IsSeriesFile sound.stands.meaning.series) files file series_file
      (some_at (λ n. HasFile files n (IsSeriesFile sound.stands.meaning.series)) sound.stands.meaning.named.series file (sym (ap (λ (n : Named). n.series) same_named) ∙ reads.is) sound.stands.says.series)
      (λ bytes p q. one_file bytes kept.keys sound.stands.meaning.series p q)

  abbrev segments_read : List (List Logged)
  segments_read = reads.replays.earlier ++ reads.replays.latest ∷ []

  have_segments : HasSegments files named.segments segments_read
  have_segments = replays_have tells told named.floor named.segments wal entries files c0 c3 reads.replays

  same_segments : segments_read ≡ sound.stands.meaning.segments
  same_segments =
      segments_once files named.segments segments_read sound.stands.meaning.segments have_segments
      (subst (λ (n : Named). HasSegments files n.segments sound.stands.meaning.segments) (sym same_named) sound.stands.says.segments)

  same_entries : entries ≡ sound.stands.meaning.entries
  same_entries =
      reads.replays.holds.past_floor
      ∙ ap (λ (l : List Logged). map (λ (x : Logged). x.entry) (past named.floor l)) (sym (joined_last reads.replays.earlier reads.replays.latest) ∙ ap (λ (x : List (List Logged)). joined x) same_segments)
      ∙ ap (λ (n : Named). map (λ (x : Logged). x.entry) (past n.floor (joined sound.stands.meaning.segments))) same_named
      ∙ sym sound.stands.sound.holds.past_floor

  abbrev read_as : Meaning
  read_as = record { named = named; series = kept.keys; layers = sound.stands.meaning.layers; segments = segments_read; entries = entries }

  same_meaning : sound.stands.meaning ≡ read_as
  same_meaning = λ i. record { named = sym same_named i; series = sym same_series i; layers = sound.stands.meaning.layers; segments = sym same_segments i; entries = sym same_entries i }

  abbrev pub read_books : Books
  read_books = record {
    named = named;
    series_file = file;
    series = kept.keys;
    before = reads.replays.before;
    earlier = reads.replays.earlier;
    last = reads.replays.file;
    latest = reads.replays.latest;
    entries = entries;
    layers = sound.stands.meaning.layers;
  }

  pub read_layers : sound.stands.meaning.layers ≡ []
  read_layers = no_layers files named.files sound.stands.meaning.layers reads.no_files (subst (λ (n : Named). HasLayers files (by_age n.files) sound.stands.meaning.layers) (sym same_named) sound.stands.says.layers)

  apart : AreApart read_books
  apart =
      let d = named_apart named reads.replays.before reads.replays.file file m.sound reads.replays.parts reads.is in
      record { series_manifest = d.series_manifest; last_manifest = d.last_manifest; last_series = d.last_series; series_before = d.series_before; last_before = d.last_before; manifest_before = d.manifest_before; series_rows = rows_apart file named.files d.series_tsm; last_rows = rows_apart reads.replays.file named.files d.last_tsm; manifest_rows = rows_apart manifest named.files d.manifest_tsm }

  are_books : AreBooks read_books
  are_books = record { segments = reads.replays.parts; series = reads.is; apart = apart; sound = subst IsSound same_meaning sound.stands.sound }

  closed : OfLogs (λ n. HasFile files n IsClosed) named
  closed = subst (λ (n : Named). OfLogs (λ k. HasFile files k IsClosed) n) (sym same_named) sound.stands.closed

  pub read_adopted : AreAdopted handed named
  read_adopted = subst (AreAdopted handed) (sym same_named) sound.adopted

  present : (c : Directory) → c0.now c → OfLogs (IsPresent c) named
  present c now = logs_left files c0 handed named keeps_adopted read_adopted c now

  -- the last of the segments, and those before it
  cut : (P : ℕ → Type 0) → AllByRecursion P named.segments → AllByRecursion P reads.replays.before × P reads.replays.file
  cut P all =
      let parts = subst (AllByRecursion P) reads.replays.parts all in
      (all_left P reads.replays.before (reads.replays.file ∷ []) parts, (all_right P reads.replays.before (reads.replays.file ∷ []) parts).0)

  pub read_keeps : Keeps files c3 found.log kept wal read_books None
  read_keeps = record {
    sound = are_books;
    manifest = record {
      edits = m.edits;
      some = m.some;
      lead = m.lead;
      segment = m.segment;
      file = m.log.file;
      gate = m.log.gated told closed.first;
      stands = m.log.stands told (λ c now. (present c now).first);
    };
    keys = refl;
    series = record {
      records = reads.series.records;
      doubt = None;
      own = reads.series.log.file;
      hold = reads.series.hold;
      doubts = tt;
      gate = reads.series.log.gated told (some_at (λ n. HasFile files n IsClosed) named.series file reads.is closed.series);
      stands = reads.series.log.stands told (λ c now. some_at (IsPresent c) named.series file reads.is (present c now).series);
    };
    layers = keeps_no_layers files c3 named.files sound.stands.meaning.layers reads.no_files read_layers;
    earlier = keeps_earlier files c0 c3 run reads.replays.before reads.replays.earlier (reads.replays.have told) (cut (λ n. HasFile files n IsClosed) closed.segments).0 reads.replays.durable (λ c now. (cut (IsPresent c) (present c now).segments).0);
    latest = record {
      records = reads.replays.records;
      body = None;
      own = reads.replays.log.file;
      are = reads.replays.are;
      doubts = tt;
      gate = reads.replays.log.gated told (cut (λ n. HasFile files n IsClosed) closed.segments).1;
      stands = reads.replays.log.stands told (λ c now. (cut (IsPresent c) (present c now).segments).1);
    };
    segments = ap (λ (x : Segments). x.files) reads.replays.wal_is;
  }

  pub read_state : state ≡ state_of read_as
  read_state = sound.stands.is ∙ ap (λ (x : Meaning). state_of x) same_meaning

-- ---- the same readings, where nothing was added before them, and behind them

pub named_then : (tells : Type 0) (found : Manifest) (named : Named) (files : Directory) (old mid new : Crashes) → Leaves Same mid new → FindsNamed tells found named files old mid → FindsNamed tells found named files old new
named_then tells found named files old mid new run m = record {
  edits = m.edits;
  some = m.some;
  log = reads_then tells manifest found.log (bodies_of m.edits) files old mid new run m.log;
  lead = m.lead;
  segment = m.segment;
  sound = m.sound;
  floor = m.floor;
}

pub series_then : (tells : Type 0) (file : ℕ) (kept : Kept) (files : Directory) (old mid new : Crashes) → Leaves Same mid new → Finds tells file kept files old mid → Finds tells file kept files old new
series_then tells file kept files old mid new run s = record { records = s.records; log = reads_then tells file kept.log s.records files old mid new run s.log; hold = s.hold }

pub series_since : (tells : Type 0) (file : ℕ) (kept : Kept) (files : Directory) (first old new : Crashes) → Leaves Same first old → Finds tells file kept files old new → Finds tells file kept files first new
series_since tells file kept files first old new run s = record { records = s.records; log = reads_since tells file kept.log s.records files first old new run s.log; hold = s.hold }

replays_since : (tells : Type 0) (floor : ℕ) (segments : List ℕ) (wal : Segments) (entries : List Entry) (files : Directory) (first old new : Crashes) → Leaves Same first old → Replays tells floor segments wal entries files old new → Replays tells floor segments wal entries files first new
replays_since tells floor segments wal entries files first old new run w = record {
  before = w.before;
  file = w.file;
  parts = w.parts;
  earlier = w.earlier;
  latest = w.latest;
  many = w.many;
  have = w.have;
  records = w.records;
  are = w.are;
  log = reads_since tells w.file wal.log w.records files first old new run w.log;
  holds = w.holds;
  durable = w.durable;
  wal_is = w.wal_is;
}

-- the manifest and the series file were read, and then the segments
pub reads_all : (tells : Type 0) (begun : Begun) (wal : Segments) (entries : List Entry) (files files' : Directory) (c0 c1 c2 : Crashes) → files' ≡ files → Leaves Same c0 c1 → Leaves Same c1 c2 → IsBegun tells begun files c0 c1
    → Replays tells begun.named.floor begun.named.segments wal entries files' c1 c2 → FindsNamed tells begun.manifest begun.named files c0 c2 × ReadsLogs tells begun.named begun.series wal entries files c0 c2
reads_all tells begun wal entries files files' c0 c1 c2 same first second b w = (
  named_then tells begun.manifest begun.named files c0 c1 c2 second b.manifest,
  record {
    no_files = b.no_files;
    file = b.file;
    is = b.is;
    series = series_then tells b.file begun.series files c0 c1 c2 second b.series;
    replays = replays_since tells begun.named.floor begun.named.segments wal entries files c0 c1 c2 first (subst (λ (f : Directory). Replays tells begun.named.floor begun.named.segments wal entries f c1 c2) same w);
  },
)
