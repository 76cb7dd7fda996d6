-- Files stand for one state, and then nothing is wrong with them.
use Rattle.std.proofs.Common.{◌≡◌, ◌⊎◌, ⊎_elim, inl, inr, ℕ, List, [], ◌∷◌, ◌++◌, map, refl, sym, ap, ◌∙◌, subst, Option, None, Some}
use Rattle.std.specs.Prelude.{IsSomeAnd, Ok, Err}
use Rattle.shard_disk.specs.Directory.{Directory, HasFile}
use Rattle.shard_disk.specs.declared.damage.Damage.{Damage}
use Rattle.shard_disk.specs.declared.disk.Disk.{Ghosts}
use Rattle.point_model.specs.Histories.{State}
use Rattle.point_model.specs.Points.{Points, no_points}
use Rattle.point_model.specs.declared.entry.Entry.{Entry}
use Rattle.manifest_log.specs.declared.directory.Directory.{Directory as Named}
use Rattle.manifest_log.specs.Reading.{IsFresh, IsManifest, Reads, manifest}
use Rattle.manifest_log.proofs.OnceLemmas.{one_manifest, one_reading}
use Rattle.series_store.specs.Reading.{IsSeriesFile}
use Rattle.series_store.specs.Reading.{IsWrong as IsWrongSeries}
use Rattle.series_store.proofs.OnceLemmas as series_once
use Rattle.wal_store.specs.Reading.{entries_past}
use Rattle.wal_store.specs.Replay.{HasSegments, Holds, Logged, joined, past}
use Rattle.shard_state.specs.Layers.{HasLayers, by_age, overlay}
use Rattle.shard_state.specs.Meaning.{AreTaken, IsSound, Meaning, Says, state_of}
use Rattle.shard_state.specs.Opening.{IsSoundAtOpening}
use Rattle.shard_recover.specs.Damage.{HasNoForm, IsFirstDamage, IsWrongBehind, IsWrongEntry, IsWrongNamed}
use Rattle.shard_recover.specs.Standing.{AreRead, Stood}
use Rattle.shard_recover.proofs.DamageLemmas.{formed, never_wrong_log}
use Rattle.shard_recover.proofs.OpeningLemmas.{both, no_layers, segments_once, some_at}
use Rattle.shard_recover.proofs.ReadLemmas.{blank_fresh, fresh_unnamed}
use Rattle.shard_recover.proofs.RefusedLemmas.{refused_among, stands_in}
use Rattle.shard_recover.proofs.WrongLemmas.{had_by_files, no_rows}

-- ---- one state

series_same : (files : Directory) (some other : List (List ℕ)) (o : Option ℕ) → IsSomeAnd o (λ file. HasFile files file (IsSeriesFile some)) → IsSomeAnd o (λ file. HasFile files file (IsSeriesFile other)) → some ≡ other
series_same files some other None a b = absurd a
series_same files some other (Some file) a b = both (IsSeriesFile some) (IsSeriesFile other) files file a b (λ bytes x y. series_once.one_file bytes some other x y)

no_layer : (files : Directory) (m : Meaning) → Says files m → m.layers ≡ []
no_layer files m says = no_layers files m.named.files m.layers (no_rows files m.named.files m.layers says.layers) says.layers

one_meaning : (files : Directory) (a b : Meaning) → Says files a → Says files b → IsSound a → IsSound b → a ≡ b
one_meaning files a b sa sb ha hb =
    let named : a.named ≡ b.named = both (IsManifest a.named) (IsManifest b.named) files manifest sa.manifest sb.manifest (λ bytes x y. one_manifest bytes a.named b.named x y) in
    let series : a.series ≡ b.series = series_same files a.series b.series b.named.series (subst (λ (n : Named). IsSomeAnd n.series (λ file. HasFile files file (IsSeriesFile a.series))) named sa.series) sb.series in
    let layers : a.layers ≡ b.layers = no_layer files a sa ∙ sym (no_layer files b sb) in
    let segments : a.segments ≡ b.segments = segments_once files b.named.segments a.segments b.segments (subst (λ (n : Named). HasSegments files n.segments a.segments) named sa.segments) sb.segments in
    let entries : a.entries ≡ b.entries = ha.holds.past_floor ∙ (λ i. entries_past (named i).floor (joined (segments i))) ∙ sym hb.holds.past_floor in
    λ i. record { named = named i; series = series i; layers = layers i; segments = segments i; entries = entries i }

pub one_state : (files : Directory) (some other : State) (series others : List (List ℕ)) → Stood files some series → Stood files other others → (some ≡ other) × (series ≡ others)
one_state files some other series others a b = ⊎_elim
    (λ fresh. ⊎_elim (λ blank. (fresh.1 ∙ sym blank.1, fresh.2 ∙ sym blank.2)) (λ read. absurd (fresh_unnamed files read.meaning.named fresh.0 read.says.manifest)) b)
    (λ read. ⊎_elim (λ blank. absurd (fresh_unnamed files read.meaning.named blank.0 read.says.manifest))
    (λ again.
    let same = one_meaning files read.meaning again.meaning read.says again.says read.sound again.sound in (
      read.is ∙ ap (λ (m : Meaning). state_of m) same ∙ sym again.is,
      read.series_are ∙ ap (λ (m : Meaning). m.series) same ∙ sym again.series_are,
    )) b)
    a

-- ---- nothing is wrong

module _ (files : Directory) (m : Meaning) (says : Says files m) (sound : IsSound m) (damage : Damage) where
  some_series : m.named.series ≡ None → ⊥
  some_series none = subst (λ (o : Option ℕ). IsSomeAnd o (λ file. HasFile files file (IsSeriesFile m.series))) none says.series

  unformed : HasNoForm damage m.named → ⊥
  unformed none = ⊎_elim some_series (λ some. some (no_rows files m.named.files m.layers says.layers)) none.lacks

  -- the entries may all stand, where no points are in TSM files
  taken : AreTaken m.series no_points (entries_past m.named.floor (joined m.segments))
  taken = subst (λ (l : List Points). AreTaken m.series (overlay l) (entries_past m.named.floor (joined m.segments))) (no_layer files m says)
      (subst (AreTaken m.series (overlay m.layers)) sound.holds.past_floor sound.taken)

  not_entry : IsWrongEntry damage m.series m.named.floor files m.named.segments → ⊥
  not_entry wrong =
      let r = wrong.refuses in
      let there = stands_in files m.named.segments damage.file damage.offset r.before r.logged m.segments r.stands says.segments in
      refused_among m.series m.named.floor r.before r.logged there.0 (joined m.segments) r.is there.1 taken

  not_behind : IsWrongBehind damage m.named m.series files → ⊥
  not_behind wrong = ⊎_elim (λ log. never_wrong_log damage m.named.floor files m.named.segments log m.segments says.segments sound.holds.counted) not_entry wrong

  not_named : (file : ℕ) → m.named.series ≡ Some file → IsWrongNamed damage m.named file files → ⊥
  not_named file is wrong =
      let had = some_at (λ n. HasFile files n (IsSeriesFile m.series)) m.named.series file is says.series in
      ⊎_elim (λ gone. gone.gone (had_by_files files file (IsSeriesFile m.series) had))
      (λ there. ⊎_elim
      (λ bad. both (IsSeriesFile m.series) (IsWrongSeries file damage) files file had bad (λ bytes x y. series_once.never_wrong bytes file m.series damage x y))
      (λ found.
      let same : found.0 ≡ m.series = both (IsSeriesFile found.0) (IsSeriesFile m.series) files file found.1 had (λ bytes x y. series_once.one_file bytes found.0 m.series x y) in
      not_behind (subst (λ (s : List (List ℕ)). IsWrongBehind damage m.named s files) same found.2))
      there)
      wrong

  abbrev Behind : Named → Type 0
  Behind named = HasNoForm damage named ⊎ ((file : ℕ) × (named.series ≡ Some file) × (named.files ≡ []) × IsWrongNamed damage named file files)

  pub undamaged_read : IsFirstDamage damage files → ⊥
  undamaged_read wrong = ⊎_elim
      (λ bad. cc (one_reading files (Ok (Some m.named)) (Err damage) says.manifest bad))
      (λ named.
      let same : named.0 ≡ m.named = both (IsManifest named.0) (IsManifest m.named) files manifest named.1 says.manifest (λ bytes x y. one_manifest bytes named.0 m.named x y) in
      ⊎_elim unformed (λ more. not_named more.0 more.1 more.3) (subst Behind same named.2))
      wrong

undamaged_fresh : (files : Directory) (damage : Damage) → IsFresh files → IsFirstDamage damage files → ⊥
undamaged_fresh files damage fresh wrong = ⊎_elim
    (λ bad. cc (one_reading files (Ok None) (Err damage) fresh bad))
    (λ named. fresh_unnamed files named.0 fresh named.1)
    wrong

pub undamaged : (files : Directory) (state : State) (series : List (List ℕ)) (damage : Damage) → Stood files state series → IsFirstDamage damage files → ⊥
undamaged files state series damage stood wrong = ⊎_elim
    (λ fresh. undamaged_fresh files damage fresh.0 wrong)
    (λ read. undamaged_read files read.meaning read.says read.sound damage wrong)
    stood

-- ---- a disk that is sound as it is opened

pub sound_stands : {D R W : Type 0} (g : Ghosts D R W) (disk : D) (state : State) → IsSoundAtOpening g disk state → (series : List (List ℕ)) × Stood (g.files disk) state series
sound_stands g disk state sound = ⊎_elim
    (λ blank. ([], inl (blank_fresh (g.files disk) (g.crashes disk) (g.handed_out disk) blank.0, blank.1, refl)))
    (λ named. (named.stands.meaning.series, inr (record { meaning = named.stands.meaning; says = named.stands.says; sound = named.stands.sound; is = named.stands.is; series_are = refl })))
    sound

pub sound_undamaged : {D R W : Type 0} (g : Ghosts D R W) (disk : D) (state : State) (damage : Damage) → IsSoundAtOpening g disk state → IsFirstDamage damage (g.files disk) → ⊥
sound_undamaged g disk state damage sound wrong = let stood = sound_stands g disk state sound in undamaged (g.files disk) state stood.0 damage stood.1 wrong
