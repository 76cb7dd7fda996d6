-- Directories with the same files stand for the same.
use Rattle.std.proofs.Common.{◌≡◌, inl, inr, ⊎_elim, ℕ, ◌||◌, true, List, [], ◌∷◌, refl, sym, ap, ◌∙◌, subst, Option, Some, None, IsSome, arith}
use Rattle.std.specs.Prelude.{IsSomeAnd}
use Rattle.std.specs.FinMap.{get, keys, contains_key-keys}
use Rattle.std.specs.List.{AllByRecursion, list_any}
use Rattle.std.proofs.lemmas.Bool.{false≢true}
use Rattle.std.proofs.lemmas.Bool.Decides.{nat_tests}
use Rattle.std.specs.Ordering.{nat_cmp, eq_by_cmp}
use Rattle.shard_disk.specs.Directory.{Directory, HasFile, IsPresent}
use Rattle.gate_log.specs.Records.{IsClosed, IsGated}
use Rattle.file_table.specs.declared.row.FileRow.{FileRow}
use Rattle.point_model.specs.Histories.{State}
use Rattle.point_model.specs.Points.{Points}
use Rattle.manifest_log.specs.Reading.{IsManifest, manifest}
use Rattle.series_store.specs.Reading.{IsSeriesFile}
use Rattle.wal_store.specs.Replay.{HasSegments, IsSegment, Logged}
use Rattle.shard_state.specs.Layers.{HasLayers, IsLayer, by_age}
use Rattle.shard_state.specs.Meaning.{Stands, StandsFor}

module _ (d c : Directory) (same : (n : ℕ) → get c n ≡ get d n) where
  file_alike : (file : ℕ) (P : List ℕ → Type 0) → HasFile d file P → HasFile c file P
  file_alike file P had = subst (λ (o : Option (List ℕ)). IsSomeAnd o P) (sym (same file)) had

  some_alike : (P : ℕ → List ℕ → Type 0) (o : Option ℕ) → IsSomeAnd o (λ file. HasFile d file (P file)) → IsSomeAnd o (λ file. HasFile c file (P file))
  some_alike P None had = had
  some_alike P (Some file) had = file_alike file (P file) had

  segments_alike : (segments : List ℕ) (logged : List (List Logged)) → HasSegments d segments logged → HasSegments c segments logged
  segments_alike [] [] had = had
  segments_alike [] (l ∷ logged) had = had
  segments_alike (file ∷ segments) [] had = had
  segments_alike (file ∷ segments) (l ∷ logged) had = (file_alike file (IsSegment l) had.0, segments_alike segments logged had.1)

  layers_alike : (rows : List FileRow) (layers : List Points) → HasLayers d rows layers → HasLayers c rows layers
  layers_alike [] [] had = had
  layers_alike [] (l ∷ layers) had = had
  layers_alike (row ∷ rows) [] had = had
  layers_alike (row ∷ rows) (l ∷ layers) had = (file_alike row.no (IsLayer row l) had.0, layers_alike rows layers had.1)

  closed_alike : (segments : List ℕ) → AllByRecursion (λ file. HasFile d file IsClosed) segments → AllByRecursion (λ file. HasFile c file IsClosed) segments
  closed_alike [] had = tt
  closed_alike (file ∷ segments) had = (file_alike file IsClosed had.0, closed_alike segments had.1)

  named_alike : (state : State) → StandsFor d state → StandsFor c state
  named_alike state stands = record {
    meaning = stands.meaning;
    says = record {
      manifest = file_alike manifest (IsManifest stands.meaning.named) stands.says.manifest;
      series = some_alike (λ file. IsSeriesFile stands.meaning.series) stands.meaning.named.series stands.says.series;
      layers = layers_alike (by_age stands.meaning.named.files) stands.meaning.layers stands.says.layers;
      segments = segments_alike stands.meaning.named.segments stands.meaning.segments stands.says.segments;
    };
    closed = record {
      first = file_alike manifest IsClosed stands.closed.first;
      series = some_alike (λ file. IsClosed) stands.meaning.named.series stands.closed.series;
      segments = closed_alike stands.meaning.named.segments stands.closed.segments;
    };
    sound = stands.sound;
    is = stands.is;
  }

  -- a number of a file is the number of one that is there
  first_there : (k : ℕ) (ks : List ℕ) → keys c ≡ k ∷ ks → IsPresent c k
  first_there k ks is = contains_key-keys c k ∙ ap (λ (l : List ℕ). list_any (eq_by_cmp nat_cmp k) l) is ∙ here
    where
      one : (n : ℕ) → eq_by_cmp nat_cmp n n ≡ true
      one n = grind (arith, nat_tests)

      here : list_any (eq_by_cmp nat_cmp k) (k ∷ ks) ≡ true
      here = ap (λ b. b || list_any (eq_by_cmp nat_cmp k) ks) (one k)

  absent : (k : ℕ) → keys d ≡ [] → IsPresent c k → ⊥
  absent k none there = false≢true (sym (contains_key-keys d k ∙ ap (λ (l : List ℕ). list_any (eq_by_cmp nat_cmp k) l) none) ∙ subst (λ (o : Option (List ℕ)). IsSome o) (same k) there)

  none_alike : keys d ≡ [] → keys c ≡ []
  none_alike none = of (keys c) refl
    where
      of : (l : List ℕ) → keys c ≡ l → l ≡ []
      of [] is = refl
      of (k ∷ ks) is = absurd (absent k none (first_there k ks is))

  pub stands_alike : (state : State) → Stands d state → Stands c state
  stands_alike state stands =
      ⊎_elim (λ blank. inl (⊎_elim (λ none. inl (none_alike none)) (λ gated. inr (file_alike manifest (IsGated []) gated)) blank.0, blank.1)) (λ named. inr (named_alike state named)) stands
