-- A session over a store in memory is explained by the store's history.
use Rattle.std.proofs.Common.{◌≡◌, ◌≤◌, ◌+◌, ℕ, min, Bool, true, false, List, [], ◌∷◌, ◌++◌, length, refl, sym, ap, ◌∙◌, subst, arith, inl, inr, Option, Some, None, IsTrue, IsPermutation, if◌then◌else◌}
use Rattle.std.specs.Prelude.{IsSome}
use Rattle.std.proofs.lemmas.List.{append-nil}
use Rattle.std.proofs.lemmas.List.Sorted.{IsPermutation-refl}
use Rattle.shard_disk.specs.Health.{Health, last_count}
use Rattle.point_model.specs.declared.entry.Entry.{Entry}
use Rattle.point_model.specs.Histories.{State, nothing}
use Rattle.store_trait.specs.Told.{Told, Limits, OwnsAll, numbers_from as store_numbers}
use Rattle.session_io.specs.declared.report.Report.{Report}
use Rattle.session_model.specs.Replies.{Reply, accepted}
use Rattle.session_model.specs.Replies.Reply.{Accepted, Found, Reached, NotReached, NotBuilt, Refused, TypeConflict, HistoryFull, OutOfMemory, DeviceFault, Damaged, CacheFull, SeriesFull}
use Rattle.session_model.specs.Machine.{Answer, IsOutOfMemory}
use Rattle.session_model.specs.Explained.{Transcript, Dialogue, IsTold, Explained, IsGivenAt, TakePlaces, all_answers, own_numbers, numbers_from}
use Rattle.session_loop.specs.Sessions.{IsDialogue, IsSession, IsServed, Told as Client, is_fault, faults_in}
use Rattle.session_loop.specs.Steps.{Stored, HasCauseAt, ReplyHasCause}
use Rattle.session_loop.proofs.StepLemmas.{given_by}

abbrev pub OutOfMemoryAlone : List Entry → Answer → Type 0
OutOfMemoryAlone before = IsOutOfMemory

no_limit : IsSome {T = Limits} None → ⊥
no_limit h = cc h

-- without limits and faults only want of memory is a cause
memory_alone : (tells : Bool) (series : ℕ) (start : State) (before : List Entry) (answer : Answer) (reply : Reply) → (is_fault reply ≡ true → ⊥)
    → ReplyHasCause tells None series start before answer reply → reply ≡ OutOfMemory
memory_alone tells series start before answer OutOfMemory steady cause = refl
memory_alone tells series start before answer DeviceFault steady cause = absurd (steady refl)
memory_alone tells series start before answer (Damaged file offset) steady cause = absurd (no_limit cause.3)
memory_alone tells series start before answer (CacheFull held) steady cause = absurd cause.4
memory_alone tells series start before answer (SeriesFull held) steady cause = absurd cause.3
memory_alone tells series start before answer (Accepted number) steady cause = absurd cause
memory_alone tells series start before answer (Found number tables) steady cause = absurd cause
memory_alone tells series start before answer (Reached number) steady cause = absurd cause
memory_alone tells series start before answer (NotReached number) steady cause = absurd cause
memory_alone tells series start before answer NotBuilt steady cause = absurd cause
memory_alone tells series start before answer (Refused refusal) steady cause = absurd cause
memory_alone tells series start before answer (TypeConflict field held number) steady cause = absurd cause
memory_alone tells series start before answer HistoryFull steady cause = absurd cause

first_steady : (fault : Bool) (more : ℕ) → (if fault then 1 else 0) + more ≡ 0 → fault ≡ true → ⊥
first_steady true more none is = omega (arith, none)
first_steady false more none is = cc is

rest_steady : (fault : Bool) (more : ℕ) → (if fault then 1 else 0) + more ≡ 0 → more ≡ 0
rest_steady true more none = omega (arith, none)
rest_steady false more none = omega (arith, none)

given_memory : (told : Told) (answer : Answer) (place : ℕ) → told.limits ≡ None → (is_fault answer.reply ≡ true → ⊥)
    → IsGivenAt told.tells (HasCauseAt told) told.start told.history told.client answer place → IsGivenAt told.tells OutOfMemoryAlone told.start told.history told.client answer place
given_memory told answer place none steady given =
    given_by told.tells (HasCauseAt told) OutOfMemoryAlone told.start told.history told.client answer place
    (λ before cause. memory_alone told.tells told.series told.start before answer answer.reply steady
    (subst (λ (o : Option Limits). ReplyHasCause told.tells o told.series told.start before answer answer.reply) none cause)) given

places_memory : (told : Told) (least : ℕ) (answers : List Answer) → told.limits ≡ None → faults_in answers ≡ 0
    → TakePlaces told.tells (HasCauseAt told) told.start told.history told.client least answers → TakePlaces told.tells OutOfMemoryAlone told.start told.history told.client least answers
places_memory told least [] none steady places = tt
places_memory told least (answer ∷ answers) none steady places = (
  places.0,
  places.1,
  given_memory told answer places.0 none (first_steady (is_fault answer.reply) (faults_in answers) steady) places.2,
  places_memory told (places.0 + length (accepted answer.reply)) answers none (rest_steady (is_fault answer.reply) (faults_in answers) steady) places.3,
)

no_faults : (count faults now : ℕ) → count ≡ 0 → now ≡ count → min (count + faults) last_count ≤ now → faults ≡ 0
no_faults count faults now none same low = omega arith

-- Over a store that tells its points, has no limits and doesn't fail, the dialogue takes its places in the store's history with
-- no cause but want of memory, whosoever's the entries are.
pub steady_told : (old new : Stored) (transcript : Transcript) (dialogue : Dialogue) → IsTrue new.told.tells → new.told.limits ≡ None
    → old.health.faults ≡ 0 → IsTrue old.health.is_steady → (is : IsDialogue old new transcript dialogue)
    → IsTold true OutOfMemoryAlone new.told.start new.told.history new.told.client transcript dialogue is.opening
steady_told old new transcript dialogue tells limits none_yet steady is =
    let told = is.told in
    let still = is.ages.steady steady in
    let none = no_faults old.health.faults (faults_in (all_answers dialogue)) new.health.faults none_yet (ap (λ (h : Health). h.faults) still) is.faults in
    record {
      within = told.within;
      records = told.records;
      places = subst (λ (b : Bool). TakePlaces b OutOfMemoryAlone new.told.start new.told.history new.told.client is.opening (all_answers dialogue)) tells
          (places_memory new.told is.opening (all_answers dialogue) limits none told.places);
    }

-- A store that began so: with nothing, for the first client, alone, without limits, and telling its points.
pub record BeginsAlone (old : Stored) : Type 0 where
  pub start : old.told.start ≡ nothing
  pub client : old.told.client ≡ 0
  pub tells : IsTrue old.told.tells
  pub alone : IsTrue old.told.is_alone
  pub limits : old.told.limits ≡ None
  pub history : old.told.history ≡ []
  pub own : old.told.own ≡ []
  pub faults : old.health.faults ≡ 0
  pub steady : IsTrue old.health.is_steady

-- the two definitions of the numbers of entries say the same
pub same_numbers : (number : ℕ) (history : List Entry) → store_numbers number history ≡ numbers_from number history
same_numbers number [] = refl
same_numbers number (entry ∷ history) = ap (λ (l : List ℕ). number ∷ l) (same_numbers (number + 1) history)

-- the history of a store that began so explains what its client was told
pub alone_explained : (old new : Stored) (transcript : Transcript) (dialogue : Dialogue) → BeginsAlone old → IsDialogue old new transcript dialogue
    → Explained nothing new.told.history (transcript ∷ [])
alone_explained old new transcript dialogue begins is =
    let kept = is.kept in
    let starts : new.told.start ≡ nothing = kept.start ∙ begins.start in
    let whole : IsTold true OutOfMemoryAlone nothing new.told.history 0 transcript dialogue is.opening =
    subst (λ (n : ℕ). IsTold true OutOfMemoryAlone nothing new.told.history n transcript dialogue is.opening) (kept.client ∙ begins.client)
    (subst (λ (s : State). IsTold true OutOfMemoryAlone s new.told.history new.told.client transcript dialogue is.opening) starts
    (steady_told old new transcript dialogue (subst (λ (b : Bool). IsTrue b) (sym kept.tells) begins.tells) (kept.limits ∙ begins.limits) begins.faults begins.steady is)) in
    let owned : OwnsAll old.told =
    begins.own ∙ sym (ap (λ (h : List Entry). store_numbers (old.told.start.number + 1) h) begins.history) in
    let owns : OwnsAll new.told = kept.alone (subst (λ (b : Bool). IsTrue b) (sym kept.is_alone) begins.alone) owned in
    let numbers : own_numbers dialogue ≡ numbers_from 1 new.told.history =
    sym (is.own ∙ ap (λ (l : List ℕ). l ++ own_numbers dialogue) begins.own)
    ∙ owns ∙ ap (λ (s : State). store_numbers (s.number + 1) new.told.history) starts ∙ same_numbers 1 new.told.history in
    record {
      dialogues = dialogue ∷ [];
      told = (is.opening, whole, tt);
      each_once = subst (λ (l : List ℕ). IsPermutation l (numbers_from 1 new.told.history)) (sym (append-nil (own_numbers dialogue) ∙ numbers))
          (IsPermutation-refl (numbers_from 1 new.told.history));
    }

pub alone_served : (before now : Client) (old new : Stored) (report : Report) → BeginsAlone old → IsSession before now old new report → IsServed before now report
alone_served before now old new report begins session = record {
  transcript = session.transcript;
  read = session.read;
  left = session.left;
  ended = session.ended;
  all_read = session.all_read;
  moments = session.moments;
  written = session.written;
  reported = session.reported;
  history = new.told.history;
  explained = alone_explained old new session.transcript session.dialogue begins session.is;
}
