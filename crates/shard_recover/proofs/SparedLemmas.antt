-- What was opened is so where the files that aren't named are removed.
use Rattle.std.proofs.Common.{◌≡◌, ℕ, List, [], ◌∷◌, ◌++◌, refl, sym, ◌∙◌, subst, Option, None, Some, IsTrue}
use Rattle.std.specs.Prelude.{IsSomeAnd}
use Rattle.std.specs.List.{AllByRecursion}
use Rattle.std.specs.declared.alloc.Global.{Global}
use Rattle.shard_disk.specs.Directory.{Directory}
use Rattle.shard_disk.specs.declared.disk.Disk.{Ghosts}
use Rattle.series_store.proofs.ListLemmas.{all_left, all_right}
use Rattle.point_model.specs.Histories.{State}
use Rattle.manifest_log.specs.declared.directory.Directory.{Directory as Named}
use Rattle.manifest_log.specs.Edits.{names}
use Rattle.manifest_log.specs.Reading.{manifest}
use Rattle.shard_state.specs.Books.{Books}
use Rattle.shard_state.specs.Crashes.{LeavesOnly}
use Rattle.shard_state.specs.Engine.{IsReady}
use Rattle.shard_state.specs.Meaning.{OfLogs, Stands}
use Rattle.shard_state.specs.declared.logs.Logs.{Logs}
use Rattle.shard_state.proofs.Images.{image_now}
use Rattle.shard_state.proofs.Leaving.{leaves_of}
use Rattle.shard_state.proofs.Standing.{image_stands}
use Rattle.shard_recover.specs.Opening.{IsAmong, Opens, OpensParts, ReadyParts, Removes, Spares, logs_on}
use Rattle.shard_recover.specs.declared.parts.Parts.{Parts}
use Rattle.shard_recover.proofs.SpareLemmas.{all_named, image_spared, keeps_spared, placed_spared}

some_at : (P : ℕ → Type 0) (o : Option ℕ) (v : ℕ) → o ≡ Some v → IsSomeAnd o P → P v
some_at P o v is had = subst (λ (x : Option ℕ). IsSomeAnd x P) is had

-- ---- two things that hold of each log

both_each : (P Q R : ℕ → Type 0) → ((n : ℕ) → P n → Q n → R n) → (ns : List ℕ) → AllByRecursion P ns → AllByRecursion Q ns → AllByRecursion R ns
both_each P Q R leads [] p q = tt
both_each P Q R leads (n ∷ ns) p q = (leads n p.0 q.0, both_each P Q R leads ns p.1 q.1)

both_some : (P Q R : ℕ → Type 0) → ((n : ℕ) → P n → Q n → R n) → (o : Option ℕ) → IsSomeAnd o P → IsSomeAnd o Q → IsSomeAnd o R
both_some P Q R leads None p q = p
both_some P Q R leads (Some n) p q = leads n p q

both_logs : (P Q R : ℕ → Type 0) → ((n : ℕ) → P n → Q n → R n) → (named : Named) → OfLogs P named → OfLogs Q named → OfLogs R named
both_logs P Q R leads named p q = record { first = leads manifest p.first q.first; series = both_some P Q R leads named.series p.series q.series; segments = both_each P Q R leads named.segments p.segments q.segments }

-- the logs have the number of the last entry
pub joined : {D : Type 0} (alloc : Global) (disk : D) (parts : Parts) (number : ℕ) (logs : Logs D) → number ≡ parts.wal.last
    → logs ≡ record { alloc = alloc; disk = disk; manifest = parts.manifest; series = parts.series; wal = parts.wal; number = number } → logs ≡ logs_on alloc disk parts
joined alloc disk parts number logs last is = is ∙ (λ i. record { alloc = alloc; disk = disk; manifest = parts.manifest; series = parts.series; wal = parts.wal; number = last i })

module _ {D R W : Type 0} (g : Ghosts D R W) (alloc : Global) (old new : D) (parts : Parts) where
  module _ (told : IsTrue g.tells) (state : State) (o : OpensParts g state alloc old parts) (removes : Removes g (0 ∷ names parts.named) old new) where
    abbrev books : Books
    books = o.opens.books

    abbrev keep : List ℕ
    keep = 0 ∷ names books.named

    removed : Removes g keep old new
    removed = subst (λ (n : Named). Removes g (0 ∷ names n) old new) (sym o.named) removes

    all : OfLogs (IsAmong keep) books.named
    all = all_named books.named books.series_file o.opens.holds.keeps.sound.series

    series : IsAmong keep books.series_file
    series = some_at (IsAmong keep) books.named.series books.series_file o.opens.holds.keeps.sound.series all.series

    segments : AllByRecursion (IsAmong keep) (books.before ++ books.last ∷ [])
    segments = subst (AllByRecursion (IsAmong keep)) o.opens.holds.keeps.sound.segments all.segments

    before : AllByRecursion (IsAmong keep) books.before
    before = all_left (IsAmong keep) books.before (books.last ∷ []) segments

    last : IsAmong keep books.last
    last = (all_right (IsAmong keep) books.before (books.last ∷ []) segments).0

    pub opens_spared : Opens g state (logs_on alloc new parts)
    opens_spared = record {
      books = books;
      holds = record {
        keeps = keeps_spared keep (g.files old) (g.files new) (g.crashes old) (g.crashes new) (removed.files told) removed.crash parts.manifest.log parts.series parts.wal books None o.opens.layers all.first series before last o.opens.holds.keeps;
        adopted = both_logs (IsAmong keep) (λ n. IsTrue ((g.handed_out old).adopted n)) (λ n. IsTrue ((g.handed_out new).adopted n)) (λ n among is. removed.adopted n among ∙ is) books.named all o.opens.holds.adopted;
        number = o.opens.holds.number;
      };
      is = o.opens.is;
      layers = o.opens.layers;
    }

    pub leaves_spared : LeavesOnly (λ (c : Directory). Stands c state) (g.crashes old) (g.crashes new)
    leaves_spared =
        leaves_of (Spares keep) (λ (c : Directory). Stands c state) (g.crashes old) (g.crashes new)
        (λ d c now spares. subst (Stands c) (sym o.opens.is)
        (image_stands books [] o.opens.holds.keeps.sound tt c
        (image_spared keep d c spares books [] o.opens.layers all.first series before last
        (image_now (g.files old) (g.crashes old) parts.manifest.log parts.series parts.wal books None o.opens.holds.keeps d now))))
        removed.crash

  pub ready_spared : ReadyParts g alloc old parts → Removes g (0 ∷ names parts.named) old new → IsReady g (logs_on alloc new parts)
  ready_spared r removes =
      let keep = 0 ∷ names parts.named in
      let all = all_named parts.named parts.series.log.file r.series_file in
      let last = (all_right (IsAmong keep) r.before (parts.wal.log.file ∷ []) (subst (AllByRecursion (IsAmong keep)) r.segments all.segments)).0 in
      record {
        manifest_placed = λ told. placed_spared keep (g.files old) (g.files new) (removes.files told) parts.manifest.log manifest r.manifest_file all.first (r.ready.manifest_placed told);
        series_placed = λ told. placed_spared keep (g.files old) (g.files new) (removes.files told) parts.series.log parts.series.log.file refl (some_at (IsAmong keep) parts.named.series parts.series.log.file r.series_file all.series) (r.ready.series_placed told);
        wal_placed = λ told. placed_spared keep (g.files old) (g.files new) (removes.files told) parts.wal.log parts.wal.log.file refl last (r.ready.wal_placed told);
        series_manifest = r.ready.series_manifest;
        wal_manifest = r.ready.wal_manifest;
        wal_series = r.ready.wal_series;
        counted = r.ready.counted;
        limit = r.ready.limit;
      }
