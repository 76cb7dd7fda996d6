-- A directory has one first damage.
use Rattle.std.proofs.Common.{◌≡◌, ◌⊎◌, ⊎_elim, inl, inr, ℕ, List, [], ◌∷◌, ◌++◌, refl, sym, ap, ◌∙◌, subst, append_assoc, Option, None, Some}
use Rattle.std.specs.Prelude.{Ok, Err}
use Rattle.shard_disk.specs.Directory.{Directory, HasFile}
use Rattle.shard_disk.specs.declared.damage.Damage.{Damage}
use Rattle.manifest_log.specs.declared.directory.Directory.{Directory as Named}
use Rattle.manifest_log.specs.Reading.{IsManifest, Reads, manifest}
use Rattle.manifest_log.proofs.OnceLemmas.{one_manifest, one_reading}
use Rattle.series_store.specs.Reading.{IsSeriesFile}
use Rattle.series_store.specs.Reading.{IsWrong as IsWrongSeries}
use Rattle.series_store.proofs.OnceLemmas as series_once
use Rattle.wal_store.specs.Replay.{AreCounted, HasSegments, IsSegment, IsWrongSegment, Logged, joined}
use Rattle.wal_store.proofs.OnceLemmas as segment_once
use Rattle.wal_store.proofs.ReplayLemmas.{counted_front}
use Rattle.shard_recover.specs.Damage.{HasNoForm, IsFirstDamage, IsMissing, IsWrongBehind, IsWrongEntry, IsWrongLog, IsWrongNamed}
use Rattle.shard_recover.proofs.CutLemmas.{two_cuts}
use Rattle.shard_recover.proofs.OpeningLemmas.{both, segments_once}
use Rattle.shard_recover.proofs.RefusedLemmas.{one_place}
use Rattle.shard_recover.proofs.WrongLemmas.{cut, had_by_files, joined_cut}

same_told : (some other told : Damage) → some ≡ told → other ≡ told → some ≡ other
same_told some other told a b = a ∙ sym b

none_some : (n : ℕ) (o : Option ℕ) → o ≡ None → o ≡ Some n → ⊥
none_some n o none some = cc (none, some)

some_one : (o : Option ℕ) (a b : ℕ) → o ≡ Some a → o ≡ Some b → a ≡ b
some_one o a b x y = cc (x, y)

-- ---- the log of entries

module _ (damage : Damage) (floor : ℕ) (files : Directory) (segments : List ℕ) (w : IsWrongLog damage floor files segments) where
  -- it is wrong among no segments that are sound and whose entries are counted
  pub never_within : (more : List ℕ) (all : List (List Logged)) → HasSegments files (w.sound ++ w.wrong_file ∷ more) all → AreCounted floor (joined all) → ⊥
  never_within more all have counted =
      let c = cut files w.sound w.wrong_file more all have in
      let same : w.logged ≡ c.earlier = segments_once files w.sound w.logged c.earlier w.have c.have in
      let front : AreCounted floor (joined c.earlier ++ c.here) = counted_front floor (joined c.earlier ++ c.here) (joined c.later) (subst (AreCounted floor) (ap joined c.parts ∙ joined_cut c.earlier c.here c.later) counted) in
      ⊎_elim
      (λ missing. missing.gone (had_by_files files w.wrong_file (IsSegment c.here) c.is))
      (λ wrong. both (IsSegment c.here) (IsWrongSegment damage w.wrong_file floor (joined c.earlier)) files w.wrong_file c.is
      (subst (λ (l : List (List Logged)). HasFile files w.wrong_file (IsWrongSegment damage w.wrong_file floor (joined l))) same wrong)
      (λ bytes is bad. segment_once.never_wrong damage w.wrong_file floor (joined c.earlier) c.here bytes is front bad))
      w.wrong

  pub never_wrong_log : (all : List (List Logged)) → HasSegments files segments all → AreCounted floor (joined all) → ⊥
  never_wrong_log all have counted = never_within w.others all (subst (λ (s : List ℕ). HasSegments files s all) w.parts have) counted

module _ (some other : Damage) (floor : ℕ) (files : Directory) (segments : List ℕ) (a : IsWrongLog some floor files segments) (b : IsWrongLog other floor files segments) where
  abbrev Bad : Damage → ℕ → List (List Logged) → Type 0
  Bad damage file logged = IsMissing damage files file ⊎ HasFile files file (IsWrongSegment damage file floor (joined logged))

  same_file : (x y : Damage) (file : ℕ) (logged : List (List Logged)) → Bad x file logged → Bad y file logged → x ≡ y
  same_file x y file logged p q = ⊎_elim
      (λ gone. ⊎_elim (λ lost. same_told x y _ gone.told lost.told) (λ wrong. absurd (gone.gone (had_by_files files file _ wrong))) q)
      (λ wrong. ⊎_elim (λ lost. absurd (lost.gone (had_by_files files file _ wrong)))
      (λ bad. both (IsWrongSegment x file floor (joined logged)) (IsWrongSegment y file floor (joined logged)) files file wrong bad (λ bytes m n. segment_once.one_wrong x y file floor (joined logged) bytes m n)) q)
      p

  same_place : a.sound ≡ b.sound → a.wrong_file ≡ b.wrong_file → some ≡ other
  same_place sound file =
      let logged : a.logged ≡ b.logged = segments_once files b.sound a.logged b.logged (subst (λ (s : List ℕ). HasSegments files s a.logged) sound a.have) b.have in
      same_file some other b.wrong_file b.logged (subst (λ (l : List (List Logged)). Bad some b.wrong_file l) logged (subst (λ (n : ℕ). Bad some n a.logged) file a.wrong)) b.wrong

  pub one_wrong_log : some ≡ other
  one_wrong_log = ⊎_elim
      (λ one. same_place one.0 one.1)
      (λ apart. absurd (⊎_elim
      (λ first. never_within some floor files segments a first.0 b.logged (subst (λ (s : List ℕ). HasSegments files s b.logged) first.1 b.have) b.counted)
      (λ second. never_within other floor files segments b second.0 a.logged (subst (λ (s : List ℕ). HasSegments files s a.logged) second.1 a.have) a.counted)
      apart))
      (two_cuts a.sound a.wrong_file a.others b.sound b.wrong_file b.others (sym a.parts ∙ b.parts))

-- ---- an entry

one_wrong_entry : (some other : Damage) (series : List (List ℕ)) (floor : ℕ) (files : Directory) (segments : List ℕ) → IsWrongEntry some series floor files segments → IsWrongEntry other series floor files segments → some ≡ other
one_wrong_entry some other series floor files segments a b =
    let place = one_place series floor files segments some.file some.offset other.file other.offset a.refuses b.refuses in
    λ i. record { file = place.0 i; offset = place.1 i; why = (a.why ∙ sym b.why) i }

one_behind : (some other : Damage) (named : Named) (series : List (List ℕ)) (files : Directory) → IsWrongBehind some named series files → IsWrongBehind other named series files → some ≡ other
one_behind some other named series files a b = ⊎_elim
    (λ log. ⊎_elim (λ other_log. one_wrong_log some other named.floor files named.segments log other_log) (λ entry. absurd (never_wrong_log some named.floor files named.segments log entry.logged entry.have entry.counted)) b)
    (λ entry. ⊎_elim (λ log. absurd (never_wrong_log other named.floor files named.segments log entry.logged entry.have entry.counted)) (λ other_entry. one_wrong_entry some other series named.floor files named.segments entry other_entry) b)
    a

-- ---- what is named

-- the series were found
abbrev Found : Damage → Named → ℕ → Directory → Type 0
Found damage named file files = (series : List (List ℕ)) × HasFile files file (IsSeriesFile series) × IsWrongBehind damage named series files

one_found : (some other : Damage) (named : Named) (file : ℕ) (files : Directory) → Found some named file files → Found other named file files → some ≡ other
one_found some other named file files a b =
    let same : a.0 ≡ b.0 = both (IsSeriesFile a.0) (IsSeriesFile b.0) files file a.1 b.1 (λ bytes x y. series_once.one_file bytes a.0 b.0 x y) in
    one_behind some other named b.0 files (subst (λ (s : List (List ℕ)). IsWrongBehind some named s files) same a.2) b.2

never_found : (damage : Damage) (series : List (List ℕ)) (file : ℕ) (files : Directory) → HasFile files file (IsWrongSeries file damage) → HasFile files file (IsSeriesFile series) → ⊥
never_found damage series file files wrong found = both (IsSeriesFile series) (IsWrongSeries file damage) files file found wrong (λ bytes x y. series_once.never_wrong bytes file series damage x y)

one_named : (some other : Damage) (named : Named) (file : ℕ) (files : Directory) → IsWrongNamed some named file files → IsWrongNamed other named file files → some ≡ other
one_named some other named file files a b = ⊎_elim
    (λ gone. ⊎_elim (λ lost. same_told some other _ gone.told lost.told)
    (λ there. absurd (⊎_elim (λ wrong. gone.gone (had_by_files files file _ wrong)) (λ found. gone.gone (had_by_files files file _ found.1)) there)) b)
    (λ there. ⊎_elim
    (λ wrong. ⊎_elim (λ lost. absurd (lost.gone (had_by_files files file _ wrong)))
    (λ too. ⊎_elim (λ bad. both (IsWrongSeries file some) (IsWrongSeries file other) files file wrong bad (λ bytes x y. series_once.one_wrong bytes file some other x y))
    (λ found. absurd (never_found some found.0 file files wrong found.1)) too) b)
    (λ found. ⊎_elim (λ lost. absurd (lost.gone (had_by_files files file _ found.1)))
    (λ too. ⊎_elim (λ bad. absurd (never_found other found.0 file files bad found.1)) (λ again. one_found some other named file files found again) too) b)
    there)
    a

-- ---- the manifest

-- the form of what is named, or what is named
abbrev Behind : Damage → Named → Directory → Type 0
Behind damage named files = HasNoForm damage named ⊎ ((file : ℕ) × (named.series ≡ Some file) × (named.files ≡ []) × IsWrongNamed damage named file files)

pub formed : (damage : Damage) (named : Named) (file : ℕ) → HasNoForm damage named → named.series ≡ Some file → named.files ≡ [] → ⊥
formed damage named file none series files = ⊎_elim (λ lacks. none_some file named.series lacks series) (λ some. some files) none.lacks

one_form : (some other : Damage) (named : Named) (files : Directory) → Behind some named files → Behind other named files → some ≡ other
one_form some other named files a b = ⊎_elim
    (λ none. ⊎_elim (λ nor. same_told some other _ none.told nor.told) (λ wrong. absurd (formed some named wrong.0 none wrong.1 wrong.2)) b)
    (λ wrong. ⊎_elim (λ nor. absurd (formed other named wrong.0 nor wrong.1 wrong.2))
    (λ too. one_named some other named too.0 files (subst (λ (n : ℕ). IsWrongNamed some named n files) (some_one named.series wrong.0 too.0 wrong.1 too.1) wrong.3) too.3) b)
    a

pub one_damage : (files : Directory) (some other : Damage) → IsFirstDamage some files → IsFirstDamage other files → some ≡ other
one_damage files some other a b = ⊎_elim
    (λ wrong. ⊎_elim (λ bad. cc (one_reading files (Err some) (Err other) wrong bad)) (λ named. absurd (cc (one_reading files (Err some) (Ok (Some named.0)) wrong named.1))) b)
    (λ named. ⊎_elim (λ bad. absurd (cc (one_reading files (Ok (Some named.0)) (Err other) named.1 bad)))
    (λ too.
    let same : named.0 ≡ too.0 = both (IsManifest named.0) (IsManifest too.0) files manifest named.1 too.1 (λ bytes x y. one_manifest bytes named.0 too.0 x y) in
    one_form some other too.0 files (subst (λ (n : Named). Behind some n files) same named.2) too.2) b)
    a
