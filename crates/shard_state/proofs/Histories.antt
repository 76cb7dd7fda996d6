-- What a history gives of each image, and of a directory that is opened after a crash.
use Rattle.std.proofs.Common.{◌≡◌, inl, inr, ⊎_elim, ℕ, ◌+◌, List, [], ◌∷◌, ◌++◌, length, refl, sym, ap, ◌∙◌, subst, arith, Option, Some, None, IsSome}
use Rattle.std.specs.Prelude.{IsSomeAnd, IsTrue}
use Rattle.std.specs.FinMap.{get, keys}
use Rattle.std.specs.List.{AllByRecursion}
use Rattle.std.specs.Option.{option_to_list}
use Rattle.shard_disk.specs.Crash.{Crashes}
use Rattle.shard_disk.specs.Directory.{Directory, HasFile, IsPresent}
use Rattle.shard_disk.specs.declared.disk.Disk.{Ghosts}
use Rattle.gate_log.specs.Records.{IsClosed, IsGated}
use Rattle.point_model.specs.Histories.{State, state_after}
use Rattle.point_model.specs.declared.entry.Entry.{Entry}
use Rattle.manifest_log.specs.Reading.{manifest}
use Rattle.shard_state.specs.declared.logs.Logs.{Logs}
use Rattle.shard_state.specs.History.{AreKept, Attempt, Made, Ran, StandsForPrefix, Survives, entries_of}
use Rattle.shard_state.specs.Layers.{HasLayers, by_age}
use Rattle.shard_state.specs.Meaning.{Stands, StandsWithAtMost}
use Rattle.shard_state.specs.Opening.{IsSoundAtOpening, IsSoundThroughout}
use Rattle.shard_state.proofs.GoingOn.{left_now, many}

kept_at : (crashes : Crashes) (start : State) (entries : List Entry) (refused : List Attempt) (count : ℕ) (before : List Made) (m : Made) (behind : List Made) → AreKept crashes start entries refused count (before ++ m ∷ behind) → (c : Directory) → crashes.since m.moment c
    → StandsForPrefix start entries refused (count + length before + 1) c
kept_at crashes start entries refused count [] m behind kept c left = subst (λ (n : ℕ). StandsForPrefix start entries refused n c) (omega arith) (kept.1 c left)
kept_at crashes start entries refused count (x ∷ before) m behind kept c left =
    subst (λ (n : ℕ). StandsForPrefix start entries refused n c) (omega arith) (kept_at crashes start entries refused (count + 1) before m behind kept.2 c left)

-- each image since the moment of an entry has it
pub has_entry : (crashes : Crashes) (start : State) (since : ℕ) (before : List Made) (m : Made) (behind : List Made) (refused : List Attempt) → Survives crashes start since (before ++ m ∷ behind) refused → (c : Directory) → crashes.since m.moment c
    → StandsForPrefix start (entries_of (before ++ m ∷ behind)) refused (length before + 1) c
has_entry crashes start since before m behind refused survives c left =
    subst (λ (n : ℕ). StandsForPrefix start (entries_of (before ++ m ∷ behind)) refused n c) (omega arith) (kept_at crashes start (entries_of (before ++ m ∷ behind)) refused 0 before m behind survives.kept c left)

-- each image now has all entries, with the one in doubt or without
pub has_all : {D R W : Type 0} (g : Ghosts D R W) (logs : Logs D) (start : State) (since : ℕ) (made : List Made) (refused : List Attempt) (doubt : Option Entry) → Ran g logs start since made refused doubt → (c : Directory) → (g.crashes logs.disk).now c
    → StandsWithAtMost (state_after start (entries_of made)) (option_to_list doubt) c
has_all g logs start since made refused doubt ran c now = subst (λ (s : State). StandsWithAtMost s (option_to_list doubt) c) ran.is (left_now g logs ran.books doubt ran.holds c now)

-- the number counts the entries
pub counts : {D R W : Type 0} (g : Ghosts D R W) (logs : Logs D) (start : State) (since : ℕ) (made : List Made) (refused : List Attempt) (doubt : Option Entry) → Ran g logs start since made refused doubt → logs.number ≡ start.number + length made
counts g logs start since made refused doubt ran = ran.holds.number ∙ ap (λ (s : State). s.number) ran.is ∙ ap (λ (n : ℕ). start.number + n) (many made)

some_of : {X : Type 0} (P : X → Type 0) (o : Option X) → IsSomeAnd o P → IsSome o
some_of P None had = absurd had
some_of P (Some x) had = refl

there : (files : Directory) (file : ℕ) (P : List ℕ → Type 0) → HasFile files file P → IsPresent files file
there files file P had = some_of P (get files file) had

-- A directory stands for a state. A disk that reads it, leaves nothing else, and has adopted its files is sound as it is opened.
module _ {D R W : Type 0} (g : Ghosts D R W) (disk : D) (only : (c : Directory) → (g.crashes disk).now c → c ≡ g.files disk) (adopted : (n : ℕ) → IsPresent (g.files disk) n → IsTrue ((g.handed_out disk).adopted n))
    (first : keys (g.files disk) ≡ [] → (g.handed_out disk).next_number ≡ manifest) where
  each_adopted : (segments : List ℕ) → AllByRecursion (λ file. HasFile (g.files disk) file IsClosed) segments → AllByRecursion (λ file. IsTrue ((g.handed_out disk).adopted file)) segments
  each_adopted [] all = tt
  each_adopted (file ∷ segments) all = (adopted file (there (g.files disk) file IsClosed all.0), each_adopted segments all.1)

  some_adopted : (o : Option ℕ) → IsSomeAnd o (λ file. HasFile (g.files disk) file IsClosed) → IsSomeAnd o (λ file. IsTrue ((g.handed_out disk).adopted file))
  some_adopted None had = had
  some_adopted (Some file) had = adopted file (there (g.files disk) file IsClosed had)

  sound_at : (state : State) → Stands (g.files disk) state → IsSoundAtOpening g disk state
  sound_at state stands = ⊎_elim
      (λ blank. inl (⊎_elim (λ none. inl (none, first none, (λ c now. inl (subst (λ (d : Directory). keys d ≡ []) (sym (only c now)) none)))) (λ gated. inr (gated, adopted manifest (there (g.files disk) manifest (IsGated []) gated))) blank.0, blank.1))
      (λ named. inr (record {
        stands = named;
        adopted = record {
          first = adopted manifest (there (g.files disk) manifest IsClosed named.closed.first);
          series = some_adopted named.meaning.named.series named.closed.series;
          segments = each_adopted named.meaning.named.segments named.closed.segments;
        };
        layers = λ c now. subst (λ (d : Directory). HasLayers d (by_age named.meaning.named.files) named.meaning.layers) (sym (only c now)) named.says.layers;
      }))
      stands

  pub sound_after : (state : State) → Stands (g.files disk) state → IsSoundThroughout g disk state
  sound_after state stands = record { sound = sound_at state stands; images = λ c now. subst (λ (d : Directory). Stands d state) (sym (only c now)) stands }
