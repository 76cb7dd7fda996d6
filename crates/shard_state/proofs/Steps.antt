-- What the calls of the logs make of what an engine keeps.
use Rattle.std.proofs.Common.{◌≡◌, inl, inr, ⊎_elim, ℕ, ◌+◌, List, [], ◌∷◌, ◌++◌, refl, sym, ap, ◌∙◌, subst, Option, Some, None}
use Rattle.std.specs.Prelude.{IfSome}
use Rattle.std.specs.List.{AllByRecursion}
use Rattle.std.specs.Option.{option_to_list}
use Rattle.shard_disk.specs.Crash.{Crashes, Leaves}
use Rattle.shard_disk.specs.Directory.{Anything, ChangesAt, Directory, Ends, Step}
use Rattle.shard_disk.proofs.Everywhere.{file_weaker}
use Rattle.gate_log.specs.declared.log.Log.{Log}
use Rattle.gate_log.specs.Log.{IsLeft, Stands, doubtful}
use Rattle.gate_log.specs.Records.{WithAtMost}
use Rattle.gate_log.specs.Calls.Settle.{KeepsFile}
use Rattle.point_model.specs.declared.entry.Entry.{Entry}
use Rattle.series_store.specs.Calls.{Kept}
use Rattle.series_store.specs.Format.{IsKey, record_bytes}
use Rattle.series_store.specs.Lists.{MayAdd}
use Rattle.series_store.proofs.HoldLemmas.{one_record_more}
use Rattle.wal_store.specs.Segments.{Segments, SpellsRecord}
use Rattle.wal_store.proofs.ReplayLemmas.{are_more}
use Rattle.shard_state.specs.Books.{Books, IsClosedLog, IsLatest, IsNext, IsSeriesFrom, next_logged, state_in, with_entry, with_series}
use Rattle.shard_state.specs.Crashes.{LeavesOnly}
use Rattle.shard_state.specs.Engine.{IsLeftEntry}
use Rattle.shard_state.specs.Keeping.{KeepsLayers, IsEntryDoubt, IsSeriesDoubt, Keeps, KeepsEarlier, KeepsManifest, KeepsSeriesFile}
use Rattle.shard_state.specs.Layers.{by_age}
use Rattle.shard_state.specs.Meaning.{StandsWithAtMost}
use Rattle.shard_state.proofs.Elsewhere.{apart_by_age, earlier_elsewhere, keeps_layers_elsewhere, manifest_elsewhere, series_elsewhere, stands_elsewhere}
use Rattle.shard_state.proofs.Images.{image_now, latest_at_most, latest_changes, next_records, series_at_most, series_changes, series_doubts}
use Rattle.shard_state.proofs.Leaving.{leaves_of}
use Rattle.shard_state.proofs.Standing.{image_stands, next_series, sound_entry, sound_series}

-- a step of a file under its number in the books
pub renamed : (file own : ℕ) (P Q : List ℕ → Type 0) (d c : Directory) → file ≡ own → ((bytes : List ℕ) → P bytes → Q bytes) → ChangesAt file (Ends P) d c → ChangesAt own (Ends Q) d c
renamed file own P Q d c same leads made = subst (λ (n : ℕ). ChangesAt n (Ends Q) d c) same (record { here = file_weaker file P Q leads c made.here; others = made.others })

pub may_be_next : (books : Books) (doubt : Option Entry) (body : Option (List ℕ)) → IsEntryDoubt books doubt body → AllByRecursion (IsNext books) (option_to_list doubt)
may_be_next books None body doubts = tt
may_be_next books (Some entry) None doubts = absurd doubts
may_be_next books (Some entry) (Some body) doubts = (doubts.1, tt)

doubt_series : (books : Books) (more : List (List ℕ)) (doubt : Option Entry) (body : Option (List ℕ)) → IsEntryDoubt books doubt body → IsEntryDoubt (with_series books more) doubt body
doubt_series books more None None doubts = tt
doubt_series books more None (Some body) doubts = doubts
doubt_series books more (Some entry) None doubts = doubts
doubt_series books more (Some entry) (Some body) doubts = (doubts.0, next_series books more entry doubts.1)

module _ (tells : Type 0) (told : tells) (files files' : Directory) (crashes crashes' : Crashes) (log : Log) (old new : Kept) (wal : Segments) (books : Books) (doubt : Option Entry)
    (keeps : Keeps files crashes log old wal books doubt) (more : List (List ℕ))
    (run : Leaves (ChangesAt old.log.file (Ends (WithAtMost keeps.series.records (record_bytes more ∷ doubtful keeps.series.doubt)))) crashes crashes')
    (may : MayAdd old.keys more) (each : AllByRecursion IsKey more) where
  abbrev adding : Step
  adding = Ends (WithAtMost keeps.series.records (record_bytes more ∷ doubtful keeps.series.doubt))

  abbrev may_add : IsSeriesDoubt books.series (record_bytes more)
  may_add = (more, refl, each, subst (λ (s : List (List ℕ)). MayAdd s more) keeps.keys may)

  -- a crash while series are added
  pub series_crash : LeavesOnly (StandsWithAtMost (state_in books) (option_to_list doubt)) crashes crashes'
  series_crash =
      leaves_of _ (StandsWithAtMost (state_in books) (option_to_list doubt)) crashes crashes'
      (λ d c now made. image_stands books (option_to_list doubt) keeps.sound (may_be_next books doubt keeps.latest.body keeps.latest.doubts) c
      (series_changes books (option_to_list doubt) keeps.sound d c (image_now files crashes log old wal books doubt keeps d now)
      (renamed old.log.file books.series_file _ (IsClosedLog (IsSeriesFrom books.series)) d c keeps.series.own
      (series_at_most keeps.series.records books.series (record_bytes more ∷ doubtful keeps.series.doubt) keeps.series.hold (may_add, series_doubts books.series files crashes old.log books.series_file keeps.series)) made)))
      run

  module _ (kept : KeepsFile tells old.log new.log files files') where
    made : ChangesAt books.series_file Anything files files'
    made = subst (λ (n : ℕ). ChangesAt n Anything files files') keeps.series.own (kept.others told)

    ran : Leaves (ChangesAt books.series_file adding) crashes crashes'
    ran = subst (λ (n : ℕ). Leaves (ChangesAt n adding) crashes crashes') keeps.series.own run

    manifest_there : KeepsManifest files' crashes' log books.named
    manifest_there = manifest_elsewhere books.series_file Anything adding files files' crashes crashes' made ran log books.named (λ e. keeps.sound.apart.series_manifest (sym keeps.manifest.file ∙ e)) keeps.manifest

    earlier_there : KeepsEarlier files' crashes' books.before books.earlier
    earlier_there = earlier_elsewhere books.series_file Anything adding files files' crashes crashes' made ran books.before books.earlier keeps.sound.apart.series_before keeps.earlier

    layers_there : KeepsLayers files' crashes' (by_age books.named.files) books.layers
    layers_there = keeps_layers_elsewhere books.series_file Anything adding files files' crashes crashes' made ran (by_age books.named.files) books.layers (apart_by_age books.series_file books.named.files keeps.sound.apart.series_rows) keeps.layers

    latest_stands : Stands files' crashes' wal.log keeps.latest.records keeps.latest.body
    latest_stands =
        stands_elsewhere books.series_file Anything adding files files' crashes crashes' made ran wal.log keeps.latest.records keeps.latest.body (λ e. keeps.sound.apart.last_series (sym e ∙ keeps.latest.own)) keeps.latest.stands

    -- the series are there
    pub series_added : new.keys ≡ old.keys ++ more → Stands files' crashes' new.log (keeps.series.records ++ record_bytes more ∷ []) None → Keeps files' crashes' log new wal (with_series books more) doubt
    series_added keys stands = record {
      sound = sound_series books more keeps.sound;
      manifest = manifest_there;
      keys = keys ∙ ap (λ (s : List (List ℕ)). s ++ more) keeps.keys;
      series = record {
        records = keeps.series.records ++ record_bytes more ∷ [];
        doubt = None;
        own = kept.file ∙ keeps.series.own;
        hold = one_record_more keeps.series.records books.series more keeps.series.hold each may_add.3;
        doubts = tt;
        gate = kept.gate keeps.series.gate;
        stands = stands;
      };
      layers = layers_there;
      earlier = earlier_there;
      latest = record {
        records = keeps.latest.records;
        body = keeps.latest.body;
        own = keeps.latest.own;
        are = keeps.latest.are;
        doubts = doubt_series books more doubt keeps.latest.body keeps.latest.doubts;
        gate = keeps.latest.gate;
        stands = latest_stands;
      };
      segments = keeps.segments;
    }

    left_doubts : (fault : Type 0) (left : Option (List ℕ)) → IsLeft keeps.series.doubt (record_bytes more) fault left → IfSome left (IsSeriesDoubt books.series)
    left_doubts fault left is =
        ⊎_elim (λ none. subst (λ (o : Option (List ℕ)). IfSome o (IsSeriesDoubt books.series)) (sym none) tt)
        (λ other. ⊎_elim (λ was. subst (λ (o : Option (List ℕ)). IfSome o (IsSeriesDoubt books.series)) (sym was) keeps.series.doubts)
        (λ own. subst (λ (o : Option (List ℕ)). IfSome o (IsSeriesDoubt books.series)) (sym own.1) may_add) other) is

    -- they are not, and may be in doubt
    pub series_refused : new.keys ≡ old.keys → (fault : Type 0) (left : Option (List ℕ)) → IsLeft keeps.series.doubt (record_bytes more) fault left → Stands files' crashes' new.log keeps.series.records left
        → Keeps files' crashes' log new wal books doubt
    series_refused keys fault left is stands = record {
      sound = keeps.sound;
      manifest = manifest_there;
      keys = keys ∙ keeps.keys;
      series = record {
        records = keeps.series.records;
        doubt = left;
        own = kept.file ∙ keeps.series.own;
        hold = keeps.series.hold;
        doubts = left_doubts fault left is;
        gate = kept.gate keeps.series.gate;
        stands = stands;
      };
      layers = layers_there;
      earlier = earlier_there;
      latest = record {
        records = keeps.latest.records;
        body = keeps.latest.body;
        own = keeps.latest.own;
        are = keeps.latest.are;
        doubts = keeps.latest.doubts;
        gate = keeps.latest.gate;
        stands = latest_stands;
      };
      segments = keeps.segments;
    }

-- the last segment was changed, by calls that leave every other file
module _ (tells : Type 0) (told : tells) (files files' : Directory) (crashes crashes' : Crashes) (log : Log) (series : Kept) (old new : Segments) (books : Books) (doubt : Option Entry)
    (keeps : Keeps files crashes log series old books doubt) (step : Step) (run : Leaves (ChangesAt old.log.file step) crashes crashes') (kept : KeepsFile tells old.log new.log files files') where
  changed : ChangesAt books.last Anything files files'
  changed = subst (λ (n : ℕ). ChangesAt n Anything files files') keeps.latest.own (kept.others told)

  changing : Leaves (ChangesAt books.last step) crashes crashes'
  changing = subst (λ (n : ℕ). Leaves (ChangesAt n step) crashes crashes') keeps.latest.own run

  pub manifest_stays : KeepsManifest files' crashes' log books.named
  manifest_stays = manifest_elsewhere books.last Anything step files files' crashes crashes' changed changing log books.named (λ e. keeps.sound.apart.last_manifest (sym keeps.manifest.file ∙ e)) keeps.manifest

  pub earlier_stays : KeepsEarlier files' crashes' books.before books.earlier
  earlier_stays = earlier_elsewhere books.last Anything step files files' crashes crashes' changed changing books.before books.earlier keeps.sound.apart.last_before keeps.earlier

  pub layers_stay : KeepsLayers files' crashes' (by_age books.named.files) books.layers
  layers_stay = keeps_layers_elsewhere books.last Anything step files files' crashes crashes' changed changing (by_age books.named.files) books.layers (apart_by_age books.last books.named.files keeps.sound.apart.last_rows) keeps.layers

  pub series_stays : KeepsSeriesFile files' crashes' series.log books.series_file books.series
  series_stays = series_elsewhere books.last Anything step files files' crashes crashes' changed changing series.log books.series_file books.series (λ e. keeps.sound.apart.last_series (sym keeps.series.own ∙ e)) keeps.series

  -- its entries are the same, and this one is in doubt or none
  pub keeps_left : new.files ≡ old.files → (left : Option Entry) (body : Option (List ℕ)) → IsEntryDoubt books left body → Stands files' crashes' new.log keeps.latest.records body → Keeps files' crashes' log series new books left
  keeps_left same_files left body doubts stands = record {
    sound = keeps.sound;
    manifest = manifest_stays;
    keys = keeps.keys;
    series = series_stays;
    layers = layers_stay;
    earlier = earlier_stays;
    latest = record { records = keeps.latest.records; body = body; own = kept.file ∙ keeps.latest.own; are = keeps.latest.are; doubts = doubts; gate = kept.gate keeps.latest.gate; stands = stands };
    segments = same_files ∙ keeps.segments;
  }

module _ (tells : Type 0) (told : tells) (files files' : Directory) (crashes crashes' : Crashes) (log : Log) (series : Kept) (old new : Segments) (books : Books) (doubt : Option Entry)
    (keeps : Keeps files crashes log series old books doubt) (entry : Entry) (body : List ℕ)
    (run : Leaves (ChangesAt old.log.file (Ends (WithAtMost keeps.latest.records (body ∷ doubtful keeps.latest.body)))) crashes crashes')
    (next : IsNext books entry) (spells : SpellsRecord ((state_in books).number + 1) entry body) where
  abbrev entering : Step
  entering = Ends (WithAtMost keeps.latest.records (body ∷ doubtful keeps.latest.body))

  -- a crash while an entry is added
  pub entry_crash : LeavesOnly (StandsWithAtMost (state_in books) (entry ∷ option_to_list doubt)) crashes crashes'
  entry_crash =
      leaves_of _ (StandsWithAtMost (state_in books) (entry ∷ option_to_list doubt)) crashes crashes'
      (λ d c now made. image_stands books (entry ∷ option_to_list doubt) keeps.sound (next, may_be_next books doubt keeps.latest.body keeps.latest.doubts) c
      (latest_changes books (option_to_list doubt) keeps.sound d c (image_now files crashes log series old books doubt keeps d now) (entry ∷ option_to_list doubt)
      (renamed old.log.file books.last _ (IsClosedLog (IsLatest books (entry ∷ option_to_list doubt))) d c keeps.latest.own
      (latest_at_most books keeps.latest.records (entry ∷ option_to_list doubt) (body ∷ doubtful keeps.latest.body) keeps.latest.are (spells, next_records books doubt keeps.latest.body keeps.latest.doubts)) made)))
      run

  module _ (kept : KeepsFile tells old.log new.log files files') (same_files : new.files ≡ old.files) where
    -- the entry is there
    pub entry_added : Stands files' crashes' new.log (keeps.latest.records ++ body ∷ []) None → Keeps files' crashes' log series new (with_entry books entry) None
    entry_added stands = record {
      sound = sound_entry books entry keeps.sound next;
      manifest = manifest_stays tells told files files' crashes crashes' log series old new books doubt keeps entering run kept;
      keys = keeps.keys;
      series = series_stays tells told files files' crashes crashes' log series old new books doubt keeps entering run kept;
      layers = layers_stay tells told files files' crashes crashes' log series old new books doubt keeps entering run kept;
      earlier = earlier_stays tells told files files' crashes crashes' log series old new books doubt keeps entering run kept;
      latest = record {
        records = keeps.latest.records ++ body ∷ [];
        body = None;
        own = kept.file ∙ keeps.latest.own;
        are = are_more books.latest keeps.latest.records (next_logged books entry) body keeps.latest.are spells;
        doubts = tt;
        gate = kept.gate keeps.latest.gate;
        stands = stands;
      };
      segments = same_files ∙ keeps.segments;
    }

    -- it is not, and may be in doubt
    pub entry_refused : (fault : Type 0) (left : Option (List ℕ)) → IsLeft keeps.latest.body body fault left → Stands files' crashes' new.log keeps.latest.records left
        → (entry_left : Option Entry) × IsLeftEntry fault doubt entry entry_left × Keeps files' crashes' log series new books entry_left
    entry_refused fault left is stands =
        ⊎_elim (λ none. (None, inl refl, keeps_left tells told files files' crashes crashes' log series old new books doubt keeps entering run kept same_files None None tt (subst (λ (o : Option (List ℕ)). Stands files' crashes' new.log keeps.latest.records o) none stands)))
        (λ other. ⊎_elim
        (λ was. (doubt, inr (inl refl), keeps_left tells told files files' crashes crashes' log series old new books doubt keeps entering run kept same_files doubt keeps.latest.body keeps.latest.doubts (subst (λ (o : Option (List ℕ)). Stands files' crashes' new.log keeps.latest.records o) was stands)))
        (λ own. (Some entry, inr (inr (own.0, refl)), keeps_left tells told files files' crashes crashes' log series old new books doubt keeps entering run kept same_files (Some entry) (Some body) (spells, next) (subst (λ (o : Option (List ℕ)). Stands files' crashes' new.log keeps.latest.records o) own.1 stands)))
        other) is

module _ (tells : Type 0) (told : tells) (files files' : Directory) (crashes crashes' : Crashes) (log : Log) (series : Kept) (old new : Segments) (books : Books) (doubt : Option Entry)
    (keeps : Keeps files crashes log series old books doubt) (run : Leaves (ChangesAt old.log.file (Ends (WithAtMost keeps.latest.records (doubtful keeps.latest.body)))) crashes crashes') where
  abbrev settling : Step
  settling = Ends (WithAtMost keeps.latest.records (doubtful keeps.latest.body))

  -- a crash while the doubt is ended
  pub settle_crash : LeavesOnly (StandsWithAtMost (state_in books) (option_to_list doubt)) crashes crashes'
  settle_crash =
      leaves_of _ (StandsWithAtMost (state_in books) (option_to_list doubt)) crashes crashes'
      (λ d c now made. image_stands books (option_to_list doubt) keeps.sound (may_be_next books doubt keeps.latest.body keeps.latest.doubts) c
      (latest_changes books (option_to_list doubt) keeps.sound d c (image_now files crashes log series old books doubt keeps d now) (option_to_list doubt)
      (renamed old.log.file books.last _ (IsClosedLog (IsLatest books (option_to_list doubt))) d c keeps.latest.own
      (latest_at_most books keeps.latest.records (option_to_list doubt) (doubtful keeps.latest.body) keeps.latest.are (next_records books doubt keeps.latest.body keeps.latest.doubts)) made)))
      run
