-- The first edit of a manifest names the files of a new directory.
use Rattle.std.proofs.Common.{◌≡◌, ◌≢◌, inr, ⊎_elim, ℕ, ◌<◌, ◌^◌, nat_eq, false, List, [], ◌∷◌, ◌++◌, length, refl, sym, ap, ◌∙◌, subst, arith, length-append, Option, Some, None}
use Rattle.std.specs.Prelude.{◌⊎◌, IfOk, IsSomeAnd, IsTrue, Result, Ok, Err}
use Rattle.std.specs.FinMap.{get}
use Rattle.std.specs.declared.alloc.Global.{Global}
use Rattle.std.specs.List.{IsDistinct}
use Rattle.std.proofs.lemmas.Bool.Decides.{eqb_tells}
use Rattle.fixed_width.specs.Fields.{bytes_of_u32}
use Rattle.fixed_width.proofs.Fronts.{length-u32, length-u64}
use Rattle.shard_disk.specs.Crash.{Leaves}
use Rattle.shard_disk.specs.Directory.{Anything, ChangesAt, Directory, Ends, HasFile, Step}
use Rattle.shard_disk.specs.HandedOut.{HandedOut}
use Rattle.shard_disk.specs.declared.disk.Disk.{Ghosts}
use Rattle.shard_disk.specs.declared.trouble.Trouble.{Trouble}
use Rattle.shard_disk.proofs.Everywhere.{file_weaker}
use Rattle.shard_disk.proofs.Runs.{NoneBefore}
use Rattle.gate_log.specs.declared.log.Log.{Log}
use Rattle.gate_log.specs.Calls.Append.{Adds, Appends}
use Rattle.gate_log.specs.Log.{HasGate, Stands}
use Rattle.gate_log.specs.Records.{IsGated, WithAtMost}
use Rattle.gate_log.proofs.Images.{log_image}
use Rattle.point_model.specs.Histories.{nothing}
use Rattle.manifest_log.specs.declared.change.Change.{Change}
use Rattle.manifest_log.specs.declared.change.Change.TheVariants.{AddSegment, NameSeries, SetFloor}
use Rattle.manifest_log.specs.Calls.{MayFollow}
use Rattle.manifest_log.specs.Edits.{Follows, empty, IsSound}
use Rattle.manifest_log.specs.Format.{IsWritable, change_bytes, edit_bytes}
use Rattle.manifest_log.specs.Reading.{IsManifest, Lead, manifest}
use Rattle.manifest_log.proofs.OnceLemmas.{gated_manifest, lead_fit}
use Rattle.series_store.specs.Calls.{Kept}
use Rattle.series_store.specs.Reading.{IsSeriesFile}
use Rattle.wal_store.specs.Replay.{IsSegment}
use Rattle.wal_store.specs.Segments.{Segments}
use Rattle.shard_state.specs.declared.first_files.Files.{Files}
use Rattle.shard_state.specs.Books.{AreBooks, Books, IsClosedLog, state_in}
use Rattle.shard_state.specs.Crashes.{LeavesOnly}
use Rattle.shard_state.specs.Creating.{AreFirst, AreNew, first_changes, first_logs, first_named}
use Rattle.shard_state.specs.Engine.{IsOpened}
use Rattle.shard_state.specs.Meaning.{StandsFor}
use Rattle.shard_state.proofs.Creating.{Empty, blank_left, gated_now}
use Rattle.shard_state.proofs.Elsewhere.{file_elsewhere, stands_elsewhere}
use Rattle.shard_state.proofs.Images.{closed, closed_series, is_segment}
use Rattle.shard_state.proofs.Leaving.{leaves_of, leaves_still}
use Rattle.shard_state.proofs.Standing.{says_so}

pub if_ok_then : {T E : Type 0} (r : Result T E) (P Q : T → Type 0) → ((x : T) → P x → Q x) → IfOk r P → IfOk r Q
if_ok_then (Ok x) P Q leads had = leads x had
if_ok_then (Err e) P Q leads had = had

-- ---- the edit

first_size : (series segment : ℕ) → length (edit_bytes (first_changes series segment)) ≡ 23
first_size series segment =
    let floor = change_bytes (SetFloor 0) ++ [] in
    let added = change_bytes (AddSegment segment) ++ floor in
    let named = change_bytes (NameSeries series) ++ added in
    omega (
      arith,
      length-append (bytes_of_u32 3) named,
      length-append (change_bytes (NameSeries series)) added,
      length-append (change_bytes (AddSegment segment)) floor,
      length-append (change_bytes (SetFloor 0)) [],
      length-u32 3,
      length-u32 series,
      length-u32 segment,
      length-u64 0,
    )

pub first_writable : (series segment : ℕ) → series < 2 ^ 32 → segment < 2 ^ 32 → IsWritable (first_changes series segment)
first_writable series segment s w = record { room = (s, (w, (omega arith, tt))); short = omega (arith, first_size series segment) }

tells_apart : (a b : ℕ) → a ≢ b → nat_eq a b ≡ false
tells_apart a b apart = ⊎_elim (λ same. absurd (apart same.1)) (λ other. other.0) (eqb_tells a b)

module _ (series segment : ℕ) (zero_series : manifest ≢ series) (zero_segment : manifest ≢ segment) (two : series ≢ segment) where
  first_sound : IsSound (first_named series segment)
  unfolding IsDistinct
  first_sound = record {
    once = ((tells_apart 0 segment zero_segment, (tells_apart 0 series zero_series, tt)), ((tells_apart segment series (λ e. two (sym e)), tt), (tt, tt)));
    ages = tt;
    below = tt;
  }

  pub first_made : Follows empty (first_changes series segment) (first_named series segment)
  first_made = record { made = refl; sound = first_sound }

-- ---- what it makes of the files

abbrev first_books : ℕ → ℕ → Books
first_books series segment = record { named = first_named series segment; series_file = series; series = []; before = []; earlier = []; last = segment; latest = []; entries = []; layers = [] }

first_state : (series segment : ℕ) → nothing ≡ state_in (first_books series segment)
first_state series segment = refl

module _ (series segment : ℕ) (zero_series : manifest ≢ series) (zero_segment : manifest ≢ segment) (two : series ≢ segment) where
  are_books : AreBooks (first_books series segment)
  are_books = record {
    segments = refl;
    series = refl;
    apart = record {
      series_manifest = zero_series;
      last_manifest = zero_segment;
      last_series = two;
      series_before = tt;
      last_before = tt;
      manifest_before = tt;
      series_rows = tt;
      last_rows = tt;
      manifest_rows = tt;
    };
    sound = record { holds = record { counted = refl; past_floor = refl; most = omega arith }; taken = tt };
  }

  abbrev edits : List (List Change)
  edits = first_changes series segment ∷ []

  module _ (series_small : series < 2 ^ 32) (segment_small : segment < 2 ^ 32) where
    lead : Lead edits (first_named series segment)
    lead = record { written = (first_writable series segment series_small segment_small, tt); leave = (first_named series segment, first_made series segment zero_series zero_segment two, refl) }

    named : (bytes : List ℕ) → IsGated (edit_bytes (first_changes series segment) ∷ []) bytes → IsClosedLog (IsManifest (first_named series segment)) bytes
    named bytes gated =
        (gated_manifest bytes edits (first_named series segment) (λ e. cc e) lead (λ e. cc e) gated, closed (edit_bytes (first_changes series segment) ∷ []) bytes (lead_fit edits lead.written) gated)

    -- the edit is made or it isn't, while the other files are there
    stands_so : (c : Directory) → HasFile c manifest (WithAtMost [] (edit_bytes (first_changes series segment) ∷ [])) → HasFile c series (IsGated []) → HasFile c segment (IsGated []) → Empty c
    stands_so c first had_series had_segment = ⊎_elim
        (λ made. inr (subst (λ s. StandsFor c s) (sym (first_state series segment)) (says_so (first_books series segment) c are_books (weaker manifest _ _ named made)
        (weaker series (IsGated []) (IsClosedLog (IsSeriesFile [])) (λ bytes is. closed_series [] [] bytes refl is) had_series) tt tt
        (weaker segment (IsGated []) (IsClosedLog (IsSegment [])) (λ bytes is. is_segment [] [] bytes tt is) had_segment))))
        (λ not. blank_left c not)
        (either (get c manifest) first)
      where
        weaker : (file : ℕ) (P Q : List ℕ → Type 0) → ((bytes : List ℕ) → P bytes → Q bytes) → HasFile c file P → HasFile c file Q
        weaker file P Q leads had = file_weaker file P Q leads c had

        either : (o : Option (List ℕ)) → IsSomeAnd o (WithAtMost [] (edit_bytes (first_changes series segment) ∷ [])) → IsSomeAnd o (IsGated (edit_bytes (first_changes series segment) ∷ [])) ⊎ IsSomeAnd o (IsGated [])
        either None had = absurd had
        either (Some bytes) had = had

-- ---- over the disk

module _ {D R W : Type 0} (g : Ghosts D R W) (disk : D) (files : Files) (first : AreFirst g disk files) where
  pub may_follow : (body : List ℕ) → body ≡ edit_bytes (first_changes files.series.file files.segment.file) → MayFollow (IsTrue g.tells) body files.manifest (g.files disk)
  may_follow body is = record {
    changes = first_changes files.series.file files.segment.file;
    written = first_writable files.series.file files.segment.file first.series_small first.segment_small;
    are = is;
    follows = λ told. first.first told (first_changes files.series.file files.segment.file) (first_named files.series.file files.segment.file)
        (first_made files.series.file files.segment.file (first.series_manifest told) (first.segment_manifest told) (first.segment_series told)) (λ e. cc e);
  }

  module _ (told : IsTrue g.tells) (new : AreNew g disk files) where
    blank_now : (c : Directory) → (g.crashes disk).now c → Empty c
    blank_now c now = blank_left c (gated_now (g.files disk) (g.crashes disk) files.manifest.log first.manifest_file new.manifest_gate new.manifest c now)

    -- nothing was done
    pub crash_none : NoneBefore (g.crashes disk) → LeavesOnly Empty (g.crashes disk) (g.crashes disk)
    crash_none none = leaves_still Empty (g.crashes disk) none blank_now

    module _ (body : List ℕ) (is : body ≡ edit_bytes (first_changes files.series.file files.segment.file)) (disk' : D) (log : Log) (result : Result (Unit {0}) Trouble) (appends : Appends g body files.manifest.log log disk disk' result) where
      abbrev naming : Step
      naming = Ends (WithAtMost [] (body ∷ []))

      run : Leaves (ChangesAt manifest naming) (g.crashes disk) (g.crashes disk')
      run = subst (λ (n : ℕ). Leaves (ChangesAt n naming) (g.crashes disk) (g.crashes disk')) first.manifest_file (appends.crash told new.manifest_gate [] None new.manifest)

      pub crash_named : LeavesOnly Empty (g.crashes disk) (g.crashes disk')
      crash_named = leaves_of (ChangesAt manifest naming) Empty (g.crashes disk) (g.crashes disk')
          (λ d c now made. stands_so files.series.file files.segment.file (first.series_manifest told) (first.segment_manifest told) (first.segment_series told) first.series_small first.segment_small c
          (subst (λ (b : List ℕ). HasFile c manifest (WithAtMost [] (b ∷ []))) is made.here)
          (file_elsewhere files.series.file manifest naming (IsGated []) d c (λ e. first.series_manifest told (sym e)) made (log_image (g.files disk) (g.crashes disk) files.series [] None files.series.file (IsGated []) refl new.series_gate new.series (λ bytes is. is) d now))
          (file_elsewhere files.segment.file manifest naming (IsGated []) d c (λ e. first.segment_manifest told (sym e)) made (log_image (g.files disk) (g.crashes disk) files.segment [] None files.segment.file (IsGated []) refl new.segment_gate new.segment (λ bytes is. is) d now)))
          run

      made : ChangesAt manifest Anything (g.files disk) (g.files disk')
      made = subst (λ (n : ℕ). ChangesAt n Anything (g.files disk) (g.files disk')) first.manifest_file (appends.kept.others told)

      elsewhere : (other : Log) → other.file ≢ manifest → Stands (g.files disk) (g.crashes disk) other [] None → Stands (g.files disk') (g.crashes disk') other [] None
      elsewhere other apart had = stands_elsewhere manifest Anything naming (g.files disk) (g.files disk') (g.crashes disk) (g.crashes disk') made run other [] None apart had

      adopted_still : (n : ℕ) → IsTrue ((g.handed_out disk).adopted n) → IsTrue ((g.handed_out disk').adopted n)
      adopted_still n had = subst (λ (h : HandedOut). IsTrue (h.adopted n)) (sym appends.handed_out) had

      pub opened : (alloc : Global) (series : Kept) (wal : Segments) → series.keys ≡ [] → series.log ≡ files.series → wal.log ≡ files.segment → wal.files ≡ files.segment.file ∷ []
          → Adds (IsTrue g.tells) body files.manifest.log log (g.files disk) (g.files disk') (g.crashes disk) (g.crashes disk') → IsOpened g nothing (first_logs alloc disk' (record { log = log }) series wal)
      opened alloc series wal keys series_log wal_log wal_files adds = record {
        books = first_books files.series.file files.segment.file;
        holds = record {
          keeps = record {
            sound = are_books files.series.file files.segment.file (first.series_manifest told) (first.segment_manifest told) (first.segment_series told);
            manifest = record {
              edits = first_changes files.series.file files.segment.file ∷ [];
              some = λ e. cc e;
              lead = lead files.series.file files.segment.file (first.series_manifest told) (first.segment_manifest told) (first.segment_series told) first.series_small first.segment_small;
              segment = λ e. cc e;
              file = appends.kept.file ∙ first.manifest_file;
              gate = appends.kept.gate new.manifest_gate;
              stands = subst (λ (b : List ℕ). Stands (g.files disk') (g.crashes disk') log (b ∷ []) None) is (adds.stands told [] None new.manifest);
            };
            keys = keys;
            series = record {
              records = [];
              doubt = None;
              own = ap (λ (l : Log). l.file) series_log;
              hold = refl;
              doubts = tt;
              gate = subst HasGate (sym series_log) new.series_gate;
              stands = subst (λ (l : Log). Stands (g.files disk') (g.crashes disk') l [] None) (sym series_log) (elsewhere files.series (λ e. first.series_manifest told (sym e)) new.series);
            };
            layers = tt;
            earlier = tt;
            latest = record {
              records = [];
              body = None;
              own = ap (λ (l : Log). l.file) wal_log;
              are = tt;
              doubts = tt;
              gate = subst HasGate (sym wal_log) new.segment_gate;
              stands = subst (λ (l : Log). Stands (g.files disk') (g.crashes disk') l [] None) (sym wal_log) (elsewhere files.segment (λ e. first.segment_manifest told (sym e)) new.segment);
            };
            segments = wal_files;
          };
          adopted = record {
            first = subst (λ (n : ℕ). IsTrue ((g.handed_out disk').adopted n)) first.manifest_file (adopted_still files.manifest.log.file new.manifest_adopted);
            series = adopted_still files.series.file new.series_adopted;
            segments = (adopted_still files.segment.file new.segment_adopted, tt);
          };
          number = refl;
        };
        is = first_state files.series.file files.segment.file;
      }
