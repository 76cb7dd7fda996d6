-- What is kept of an engine's logs where other files are removed.
use Rattle.std.proofs.Common.{◌≡◌, ℕ, nat_eq, true, false, Bool, ◌||◌, List, [], ◌∷◌, ◌++◌, refl, sym, ap, ◌∙◌, subst, eq-eqb, Option, Some}
use Rattle.std.specs.Prelude.{IsSomeAnd}
use Rattle.std.specs.List.{AllByRecursion, list_any, flat_map}
use Rattle.std.specs.Option.{option_to_list}
use Rattle.shard_disk.specs.Crash.{Crashes, Everywhere, Leaves}
use Rattle.shard_disk.specs.Directory.{Directory, HasFile}
use Rattle.gate_log.specs.declared.log.Log.{Log}
use Rattle.gate_log.specs.Log.{IsPlaced, Stands}
use Rattle.file_table.specs.Files.{files_of}
use Rattle.file_table.specs.declared.row.FileRow.{FileRow}
use Rattle.point_model.specs.Points.{Points}
use Rattle.point_model.specs.declared.entry.Entry.{Entry}
use Rattle.manifest_log.specs.declared.directory.Directory.{Directory as Named}
use Rattle.manifest_log.specs.Edits.{names}
use Rattle.manifest_log.specs.Reading.{manifest}
use Rattle.series_store.specs.Calls.{Kept}
use Rattle.wal_store.specs.Replay.{IsSegment, Logged}
use Rattle.wal_store.specs.Segments.{Segments}
use Rattle.shard_state.specs.Books.{Books, HasClosedSegments, IsClosedLog, IsImage}
use Rattle.shard_state.specs.Keeping.{Keeps, KeepsEarlier, KeepsLayers}
use Rattle.shard_state.specs.Layers.{HasLayers, by_age}
use Rattle.shard_state.specs.Meaning.{OfLogs}
use Rattle.shard_recover.specs.Opening.{IsAmong, Spares}
use Rattle.shard_recover.proofs.OpeningLemmas.{each_of}

-- ---- the files that are named are among those to be kept

or_right : (b : Bool) → b || true ≡ true
or_right true = refl
or_right false = refl

among_here : (n : ℕ) (xs : List ℕ) → IsAmong (n ∷ xs) n
among_here n xs = ap (λ (b : Bool). b || list_any (λ y. nat_eq y n) xs) (eq-eqb n n refl)

among_more : (x : ℕ) (xs : List ℕ) (n : ℕ) → IsAmong xs n → IsAmong (x ∷ xs) n
among_more x xs n is = ap (λ (b : Bool). nat_eq x n || b) is ∙ or_right (nat_eq x n)

among_right : (xs ys : List ℕ) (n : ℕ) → IsAmong ys n → IsAmong (xs ++ ys) n
among_right [] ys n is = is
among_right (x ∷ xs) ys n is = among_more x (xs ++ ys) n (among_right xs ys n is)

among_cons : (x : ℕ) (xs ys : List ℕ) (n : ℕ) (b : Bool) → nat_eq x n ≡ b → (IsAmong xs n → IsAmong ys n) → IsAmong (x ∷ xs) n → IsAmong (x ∷ ys) n
among_cons x xs ys n true same more is = ap (λ (b : Bool). b || list_any (λ y. nat_eq y n) ys) same
among_cons x xs ys n false apart more is = among_more x ys n (more (sym (ap (λ (b : Bool). b || list_any (λ y. nat_eq y n) xs) apart) ∙ is))

among_left : (xs ys : List ℕ) (n : ℕ) → IsAmong xs n → IsAmong (xs ++ ys) n
among_left [] ys n is = absurd (cc is)
among_left (x ∷ xs) ys n is = among_cons x xs (xs ++ ys) n (nat_eq x n) refl (among_left xs ys n) is

all_among : (xs : List ℕ) → AllByRecursion (IsAmong xs) xs
all_among [] = tt
all_among (x ∷ xs) = (among_here x xs, each_of (IsAmong xs) (IsAmong (x ∷ xs)) (λ n is. among_more x xs n is) xs (all_among xs))

some_at : (P : ℕ → Type 0) (o : Option ℕ) (v : ℕ) → o ≡ Some v → P v → IsSomeAnd o P
some_at P o v is had = subst (λ (x : Option ℕ). IsSomeAnd x P) (sym is) had

pub all_named : (named : Named) (file : ℕ) → named.series ≡ Some file → OfLogs (IsAmong (0 ∷ names named)) named
all_named named file is =
    let tsm = flat_map files_of named.files in
    let index = option_to_list named.index_log ++ option_to_list named.index_file in
    let behind = tsm ++ (option_to_list named.series ++ index) in
    record {
      first = among_here 0 (names named);
      series = some_at (IsAmong (0 ∷ names named)) named.series file is
          (among_more 0 (names named) file (among_right named.segments behind file (among_right tsm (option_to_list named.series ++ index) file
          (subst (λ (o : Option ℕ). IsAmong (option_to_list o ++ index) file) (sym is) (among_here file index)))));
      segments = each_of (IsAmong named.segments) (IsAmong (0 ∷ names named)) (λ n among. among_more 0 (names named) n (among_left named.segments behind n among)) named.segments (all_among named.segments);
    }

-- ---- what is kept

module _ (keep : List ℕ) (files files' : Directory) (spares : Spares keep files files') where
  file_spared : (n : ℕ) (P : List ℕ → Type 0) → IsAmong keep n → HasFile files n P → HasFile files' n P
  file_spared n P among had = subst (λ (o : Option (List ℕ)). IsSomeAnd o P) (sym (spares n among)) had

  pub placed_spared : (log : Log) (n : ℕ) → log.file ≡ n → IsAmong keep n → IsPlaced files log → IsPlaced files' log
  placed_spared log n own among placed = file_spared log.file _ (subst (IsAmong keep) (sym own) among) placed

  segments_spared : (segments : List ℕ) (logged : List (List Logged)) → AllByRecursion (IsAmong keep) segments → HasClosedSegments files segments logged → HasClosedSegments files' segments logged
  segments_spared [] [] among had = had
  segments_spared [] (l ∷ logged) among had = had
  segments_spared (file ∷ segments) [] among had = had
  segments_spared (file ∷ segments) (l ∷ logged) among had = (file_spared file (IsClosedLog (IsSegment l)) among.0 had.0, segments_spared segments logged among.1 had.1)

  layers_spared : (rows : List FileRow) (layers : List Points) → layers ≡ [] → HasLayers files rows layers → HasLayers files' rows layers
  layers_spared [] [] none had = had
  layers_spared [] (l ∷ layers) none had = had
  layers_spared (row ∷ rows) [] none had = had
  layers_spared (row ∷ rows) (l ∷ layers) none had = absurd (cc none)

  pub image_spared : (books : Books) (next : List Entry) → books.layers ≡ [] → IsAmong keep manifest → IsAmong keep books.series_file → AllByRecursion (IsAmong keep) books.before → IsAmong keep books.last → IsImage books next files → IsImage books next files'
  image_spared books next none first series before last image = record {
    manifest = file_spared manifest _ first image.manifest;
    series = file_spared books.series_file _ series image.series;
    layers = layers_spared (by_age books.named.files) books.layers none image.layers;
    earlier = segments_spared books.before books.earlier before image.earlier;
    latest = file_spared books.last _ last image.latest;
  }

module _ (keep : List ℕ) (files files' : Directory) (crashes crashes' : Crashes) (spares : Spares keep files files') (run : Leaves (Spares keep) crashes crashes') where
  everywhere_spared : (n : ℕ) (P : List ℕ → Type 0) → IsAmong keep n → Everywhere files crashes n P → Everywhere files' crashes' n P
  everywhere_spared n P among had = record {
    read = subst (λ (o : Option (List ℕ)). IsSomeAnd o P) (sym (spares n among)) had.read;
    left = λ c now. let from = run.now c now in subst (λ (o : Option (List ℕ)). IsSomeAnd o P) (sym (from.2 n among)) (had.left from.0 from.1);
  }

  stands_spared : (log : Log) (n : ℕ) (records : List (List ℕ)) (doubt : Option (List ℕ)) → log.file ≡ n → IsAmong keep n → Stands files crashes log records doubt → Stands files' crashes' log records doubt
  stands_spared log n records doubt own among stands = record { place = stands.place; file = everywhere_spared log.file _ (subst (IsAmong keep) (sym own) among) stands.file }

  earlier_spared : (segments : List ℕ) (logged : List (List Logged)) → AllByRecursion (IsAmong keep) segments → KeepsEarlier files crashes segments logged → KeepsEarlier files' crashes' segments logged
  earlier_spared [] [] among had = had
  earlier_spared [] (l ∷ logged) among had = had
  earlier_spared (file ∷ segments) [] among had = had
  earlier_spared (file ∷ segments) (l ∷ logged) among had = (everywhere_spared file (IsClosedLog (IsSegment l)) among.0 had.0, earlier_spared segments logged among.1 had.1)

  keeps_layers_spared : (rows : List FileRow) (layers : List Points) → layers ≡ [] → KeepsLayers files crashes rows layers → KeepsLayers files' crashes' rows layers
  keeps_layers_spared [] [] none had = had
  keeps_layers_spared [] (l ∷ layers) none had = had
  keeps_layers_spared (row ∷ rows) [] none had = had
  keeps_layers_spared (row ∷ rows) (l ∷ layers) none had = absurd (cc none)

  pub keeps_spared : (log : Log) (held : Kept) (wal : Segments) (books : Books) (doubt : Option Entry) → books.layers ≡ [] → IsAmong keep manifest → IsAmong keep books.series_file → AllByRecursion (IsAmong keep) books.before → IsAmong keep books.last
      → Keeps files crashes log held wal books doubt → Keeps files' crashes' log held wal books doubt
  keeps_spared log held wal books doubt none first series before last k = record {
    sound = k.sound;
    manifest = record {
      edits = k.manifest.edits;
      some = k.manifest.some;
      lead = k.manifest.lead;
      segment = k.manifest.segment;
      file = k.manifest.file;
      gate = k.manifest.gate;
      stands = stands_spared log manifest _ _ k.manifest.file first k.manifest.stands;
    };
    keys = k.keys;
    series = record {
      records = k.series.records;
      doubt = k.series.doubt;
      own = k.series.own;
      hold = k.series.hold;
      doubts = k.series.doubts;
      gate = k.series.gate;
      stands = stands_spared held.log books.series_file _ _ k.series.own series k.series.stands;
    };
    layers = keeps_layers_spared (by_age books.named.files) books.layers none k.layers;
    earlier = earlier_spared books.before books.earlier before k.earlier;
    latest = record {
      records = k.latest.records;
      body = k.latest.body;
      own = k.latest.own;
      are = k.latest.are;
      doubts = k.latest.doubts;
      gate = k.latest.gate;
      stands = stands_spared wal.log books.last _ _ k.latest.own last k.latest.stands;
    };
    segments = k.segments;
  }
