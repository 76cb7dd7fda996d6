-- What a step of the engine makes of what the store tells.
use Rattle.std.proofs.Common.{◌≡◌, ◌∙◌, ℕ, suc, ◌+◌, ◌<◌, ◌≤◌, All, Any, true, false, List, [], ◌∷◌, ◌++◌, length, refl, sym, ap, subst, arith, length-append, append-nil, append_assoc, Contains, ◌⊎◌, inl, inr, ⊎_elim, replicate, IsTrue, Option, None, Some, Result, Ok, Err, IfErr, IfOk, OnOk, OnErr}
use Rattle.std.specs.List.{AllByRecursion}
use Rattle.std.specs.Str.{bytes_eq}
use Rattle.std.proofs.lemmas.Bool.{false≢true}
use Rattle.std.specs.declared.snapshot.Snapshot.{Snapshot}
use Rattle.std.proofs.lemmas.List.Elements.{Contains-append_cases, Contains-append_left, Contains-append_right, Contains-push, Contains-push_cases}
use Rattle.std.proofs.lemmas.List.Folds.{list_any-append}
use Rattle.std.proofs.lemmas.List.Quantifiers.{Any-push}
use Rattle.shard_disk.specs.HandedOut.{HandedOut}
use Rattle.shard_disk.specs.Health.{Health}
use Rattle.shard_disk.specs.declared.disk.Disk.{Ghosts}
use Rattle.tsdb_types.specs.declared.point.Point.{Point}
use Rattle.tsdb_types.specs.Moments.{IsMoment}
use Rattle.point_model.specs.Acceptance.{IsAccepted, IsSound}
use Rattle.point_model.specs.Cursors.{Gives, Shown}
use Rattle.point_model.specs.declared.deletion.Deletion.{Deletion}
use Rattle.point_model.specs.declared.need.Need.{Need}
use Rattle.point_model.specs.Histories.{State, state_after}
use Rattle.point_model.specs.declared.entry.Entry.{Entry}
use Rattle.point_model.specs.declared.entry.Entry.TheVariants.{Write, Delete}
use Rattle.point_model.proofs.HistoryLemmas.{same_state, state_after-append}
use Rattle.store_trait.specs.Calls.Delete.{DeleteHasCause, MayBeTried as MayBeTriedDelete}
use Rattle.store_trait.specs.Calls.Entry.{Accepts, TakesEntry}
use Rattle.store_trait.specs.Calls.Write.{HasSeries, IsOpen, FitsSeries, MayBeTried, PassesSeries, PassesCache, WriteHasCause, WritesSeries}
use Rattle.store_trait.specs.Calls.View.{Begins, Ends, without}
use Rattle.store_trait.specs.Notes.{entry_noted}
use Rattle.store_trait.specs.Told.{Attempt, Keeps, Refuses, Told, TriesAtMost, last_number, numbers_from}
use Rattle.store_trait.specs.declared.note.EntryNote.{EntryNote}
use Rattle.store_trait.specs.declared.fault.DeleteFault.{DeleteFault}
use Rattle.store_trait.specs.declared.fault.DeleteFault.TheVariants as delete_fault
use Rattle.store_trait.specs.declared.fault.WriteFault.{WriteFault}
use Rattle.store_trait.specs.declared.fault.WriteFault.TheVariants as fault
use Rattle.shard_state.specs.History.{Made, entries_of as entries_made}
use Rattle.shard_state.specs.Meaning.{AreHeld}
use Rattle.shard_steps.specs.Calls.Delete as deleting
use Rattle.shard_steps.specs.Calls.View.{Lends}
use Rattle.shard_steps.specs.Calls.Write as steps
use Rattle.shard_steps.specs.Calls.Write.IsTried.{Untouched, Touched}
use Rattle.shard_steps.specs.Series.{AreUnheld, is_among, series_of}
use Rattle.shard_steps.specs.Shards.{IsReady, Runs, state_of}
use Rattle.shard_steps.specs.declared.shard.Shard.{Shard}
use Rattle.shard_calls.specs.Attempts.{attempt_of, deletion_attempt_of, entries_tried, entry_tried}
use Rattle.shard_calls.specs.Holds.{HasRun, Holds, HoldsSeries}
use Rattle.shard_calls.specs.Told.{limits_of, told_of}
use Rattle.shard_calls.specs.declared.noting.NotedAttempt.{NotedAttempt}
use Rattle.shard_calls.proofs.CountLemmas.{all_few, all_texts, among_contains, and_true, are_known, are_new, contains_among, few_left, known_few, known_of, left_true, new_of, numbers-last, or_true, unheld_few}
use Rattle.shard_calls.proofs.SeriesLemmas.{among_from_written, has_from_among, texts_in, turned, written_from_among}

-- Results.

pub by_result : {T E P Q S A : Type 0} (r : Result T E) → (P → Q → A) → (S → A) → OnOk r P → OnOk r Q → OnErr r S → A
by_result (Ok x) f g p q s = f p q
by_result (Err e) f g p q s = g s

pub if_ok : {T E Q : Type 0} {P A : T → Type 0} (r : Result T E) → ((x : T) → P x → Q → A x) → IfOk r P → OnOk r Q → IfOk r A
if_ok (Ok x) f p q = f x p q
if_ok (Err e) f p q = tt

-- What some element has.

pub any_left : {X : Type 0} (P : X → Type 0) (first second : List X) → Any P first → Any P (first ++ second)
any_left P first second (k, x, below, at, is) = let there = Contains-append_left first second x (k, below, at) in (there.0, x, there.1, there.2, is)

pub any_right : {X : Type 0} (P : X → Type 0) (first second : List X) → Any P second → Any P (first ++ second)
any_right P first second (k, x, below, at, is) = let there = Contains-append_right first second x (k, below, at) in (there.0, x, there.1, there.2, is)

any_nowhere : {X : Type 0} (P : X → Type 0) → Any P [] → ⊥
any_nowhere P (k, x, below, at, is) = omega (arith, below)

in_nothing : {X : Type 0} (x : X) → Contains [] x → ⊥
in_nothing x (k, below, at) = omega (arith, below)

-- Series that are held.

-- the series that are new are of the batch
of_batch : (held more : List (List ℕ)) (points : List Point) → AreUnheld held points more → (text : List ℕ) → Contains more text → HasSeries points text
of_batch held more points are text at =
    has_from_among points text (and_true (is_among (series_of points) text) (is_among held text) (sym (are.exact text) ∙ contains_among more text at)).0

pub held_points : (keys : List (List ℕ)) (points : List Point) → AreHeld keys points → (text : List ℕ) → is_among (series_of points) text ≡ true → is_among keys text ≡ true
held_points keys [] held text there = absurd (false≢true there)
held_points keys (point ∷ points) held text there = ⊎_elim
    (λ same. turned keys text point.cell.series same ∙ contains_among keys point.cell.series held.0)
    (λ more. held_points keys points held.1 text more)
    (or_true (bytes_eq text point.cell.series) (is_among (series_of points) text) there)

pub longer : (keys more : List (List ℕ)) (text : List ℕ) → Contains keys text → Contains (keys ++ more) text
longer keys more text at = among_contains (keys ++ more) text (list_any-append (bytes_eq text) keys more ∙ left_true (is_among keys text) (is_among more text) (contains_among keys text at))

texts-append : (first second : List Entry) → texts_in (first ++ second) ≡ texts_in first ++ texts_in second
texts-append [] second = refl
texts-append (Write client points ∷ first) second =
    ap (λ (l : List (List ℕ)). series_of points ++ l) (texts-append first second) ∙ sym (append_assoc (series_of points) (texts_in first) (texts_in second))
texts-append (Delete client deletion ∷ first) second = texts-append first second

written_either : (first second : List Entry) (text : List ℕ) → Any (WritesSeries text) (first ++ second) → Any (WritesSeries text) first ⊎ Any (WritesSeries text) second
written_either first second text wrote = ⊎_elim
    (λ before. inl (written_from_among first text before))
    (λ now. inr (written_from_among second text now))
    (or_true (is_among (texts_in first) text) (is_among (texts_in second) text)
    (sym (list_any-append (bytes_eq text) (texts_in first) (texts_in second))
    ∙ sym (ap (λ (l : List (List ℕ)). is_among l text) (texts-append first second))
    ∙ among_from_written (first ++ second) text wrote))

pub holds_nothing : (first : List (List ℕ)) → HoldsSeries first [] [] first
holds_nothing first = record {
  more = [];
  from_start = sym (append-nil first);
  written = λ text wrote. absurd (false≢true (among_from_written [] text wrote));
  only = λ text at. absurd (in_nothing text at);
}

-- entries behind others
pub holds_then : (first keys new : List (List ℕ)) (entries more : List Entry) (tried : List Attempt) → HoldsSeries first entries tried keys → HoldsSeries keys more [] new
    → HoldsSeries first (entries ++ more) tried new
holds_then first keys new entries more tried was then = record {
  more = was.more ++ then.more;
  from_start = then.from_start ∙ ap (λ (l : List (List ℕ)). l ++ then.more) was.from_start ∙ append_assoc first was.more then.more;
  written = λ text wrote. ⊎_elim
      (λ before. subst (λ (l : List (List ℕ)). Contains l text) (sym then.from_start) (longer keys then.more text (was.written text before)))
      (λ now. then.written text now)
      (written_either entries more text wrote);
  only = λ text at. ⊎_elim
      (λ before. ⊎_elim (λ wrote. inl (any_left (WritesSeries text) entries more wrote)) inr (was.only text before))
      (λ now. ⊎_elim (λ wrote. inl (any_right (WritesSeries text) entries more wrote)) (λ none. absurd (any_nowhere (λ (attempt : Attempt). WritesSeries text attempt.1) none)) (then.only text now))
      (Contains-append_cases was.more then.more text at);
}

-- series alone, which one more that was tried writes
pub holds_grown : (first keys more new : List (List ℕ)) (entries : List Entry) (tried : List Attempt) (last : Attempt) → HoldsSeries first entries tried keys → new ≡ keys ++ more
    → ((text : List ℕ) → Contains more text → WritesSeries text last.1) → HoldsSeries first entries (tried ++ last ∷ []) new
holds_grown first keys more new entries tried last was is own = record {
  more = was.more ++ more;
  from_start = is ∙ ap (λ (l : List (List ℕ)). l ++ more) was.from_start ∙ append_assoc first was.more more;
  written = λ text wrote. subst (λ (l : List (List ℕ)). Contains l text) (sym is) (longer keys more text (was.written text wrote));
  only = λ text at. ⊎_elim
      (λ before. ⊎_elim inl (λ earlier. inr (any_left (λ (attempt : Attempt). WritesSeries text attempt.1) tried (last ∷ []) earlier)) (was.only text before))
      (λ now. inr (Any-push (λ (attempt : Attempt). WritesSeries text attempt.1) tried last (own text now)))
      (Contains-append_cases was.more more text at);
}

batch_written : (new : List (List ℕ)) (client : ℕ) (points : List Point) → AreHeld new points → (text : List ℕ) → Any (WritesSeries text) (Write client points ∷ []) → Contains new text
batch_written new client points held text wrote = among_contains new text (held_points new points held text
    (ap (λ (l : List (List ℕ)). is_among l text) (sym (append-nil (series_of points))) ∙ among_from_written (Write client points ∷ []) text wrote))

holds_batch : (keys new : List (List ℕ)) (client : ℕ) (points : List Point) → steps.AddsSeries points keys new → AreHeld new points → HoldsSeries keys (Write client points ∷ []) [] new
holds_batch keys new client points (inl is) held = record {
  more = [];
  from_start = is ∙ sym (append-nil keys);
  written = batch_written new client points held;
  only = λ text at. absurd (in_nothing text at);
}
holds_batch keys new client points (inr (more, are, is)) held = record {
  more = more;
  from_start = is;
  written = batch_written new client points held;
  only = λ text at. inl (Any-push (WritesSeries text) [] (Write client points) (of_batch keys more points are text at));
}

holds_deletion : (keys new : List (List ℕ)) (client : ℕ) (deletion : Deletion) → new ≡ keys → HoldsSeries keys (Delete client deletion ∷ []) [] new
holds_deletion keys new client deletion is = record {
  more = [];
  from_start = is ∙ sym (append-nil keys);
  written = λ text wrote. absurd (false≢true (among_from_written (Delete client deletion ∷ []) text wrote));
  only = λ text at. absurd (in_nothing text at);
}

-- what the start has and the entries write is held
pub within_held : (first keys : List (List ℕ)) (entries : List Entry) (tried : List Attempt) → HoldsSeries first entries tried keys → (text : List ℕ) → is_among (first ++ texts_in entries) text ≡ true → is_among keys text ≡ true
within_held first keys entries tried holds text there = ⊎_elim
    (λ one. ap (λ (l : List (List ℕ)). is_among l text) holds.from_start ∙ list_any-append (bytes_eq text) first holds.more ∙ left_true (is_among first text) (is_among holds.more text) one)
    (λ more. contains_among keys text (holds.written text (written_from_among entries text more)))
    (or_true (is_among first text) (is_among (texts_in entries) text) (sym (list_any-append (bytes_eq text) first (texts_in entries)) ∙ there))

-- Steps.

-- An entry more: what a batch that is accepted and a deletion say alike.
pub record MakesEntry {D : Type 0} (made : Entry) (number : ℕ) (old new : Shard D) : Type 0 where
  pub taken : TakesEntry old.live.points made
  pub state : state_of new ≡ state_after (state_of old) (made ∷ [])
  pub given : number ≡ new.logs.number
  pub limit : number ≤ last_number
  pub series : HoldsSeries old.logs.series.keys (made ∷ []) [] new.logs.series.keys
  pub settings : new.settings ≡ old.settings
  pub views : new.views ≡ old.views

-- No entry more: what a refusal of this one leaves. The series that are new are its own.
pub record MakesNone {D : Type 0} (asked : Entry) (old new : Shard D) : Type 0 where
  pub state : state_of new ≡ state_of old
  pub more : List (List ℕ)
  pub series : new.logs.series.keys ≡ old.logs.series.keys ++ more
  pub own : (text : List ℕ) → Contains more text → WritesSeries text asked
  pub settings : new.settings ≡ old.settings
  pub views : new.views ≡ old.views

pub write_makes : {D : Type 0} (client number : ℕ) (points : List Point) (old new : Shard D) → steps.Adds client points number old new → steps.Keeps old new
    → steps.AddsSeries points old.logs.series.keys new.logs.series.keys → MakesEntry (Write client points) number old new
write_makes client number points old new adds kept grows = record {
  taken = adds.accepted;
  state = adds.state;
  given = adds.given;
  limit = adds.limit;
  series = holds_batch old.logs.series.keys new.logs.series.keys client points grows adds.held;
  settings = kept.settings;
  views = kept.views;
}

pub write_makes_none : {D : Type 0} (client : ℕ) (points : List Point) (old new : Shard D) → state_of new ≡ state_of old → steps.Keeps old new
    → steps.AddsSeries points old.logs.series.keys new.logs.series.keys → MakesNone (Write client points) old new
write_makes_none client points old new same kept (inl is) =
    record { state = same; more = []; series = is ∙ sym (append-nil old.logs.series.keys); own = λ text at. absurd (in_nothing text at); settings = kept.settings; views = kept.views }
write_makes_none client points old new same kept (inr (more, are, is)) =
    record { state = same; more = more; series = is; own = λ text at. of_batch old.logs.series.keys more points are text at; settings = kept.settings; views = kept.views }

pub delete_makes : {D R W : Type 0} (g : Ghosts D R W) (client number : ℕ) (deletion : Deletion) (old new : Shard D) → deleting.AddsDeletion client deletion number old new → deleting.LeavesRest g old new
    → MakesEntry (Delete client deletion) number old new
delete_makes g client number deletion old new adds rest = record {
  taken = tt;
  state = adds.state;
  given = adds.given;
  limit = adds.limit;
  series = holds_deletion old.logs.series.keys new.logs.series.keys client deletion rest.series;
  settings = rest.settings;
  views = rest.views;
}

pub delete_makes_none : {D R W : Type 0} (g : Ghosts D R W) (asked : Entry) (old new : Shard D) → state_of new ≡ state_of old → deleting.LeavesRest g old new → MakesNone asked old new
delete_makes_none g asked old new same rest =
    record { state = same; more = []; series = rest.series ∙ sym (append-nil old.logs.series.keys); own = λ text at. absurd (in_nothing text at); settings = rest.settings; views = rest.views }

-- The history goes on with the entry, or a refusal leaves it.
abbrev pub GoesTo : {D R W : Type 0} → Ghosts D R W → Entry → Shard D → Shard D → Type 0
GoesTo g entry old new = IsTrue g.tells → (start : State) (since : ℕ) (made : List Made) (refused : List Attempt) (doubt : Option Entry) → Runs g old start since made refused doubt
    → Runs g new start since (made ++ record { entry = entry; moment = (g.crashes new.logs.disk).moment } ∷ []) refused None

abbrev pub StaysBehind : {D R W : Type 0} → Ghosts D R W → Type 0 → Entry → Shard D → Shard D → Type 0
StaysBehind g Fault entry old new = IsTrue g.tells → (start : State) (since : ℕ) (made : List Made) (refused : List Attempt) (doubt : Option Entry) → Runs g old start since made refused doubt
    → (tried : List Attempt) × (left : Option Entry) × steps.IsTried Fault old.logs.number entry refused doubt tried left × Runs g new start since made tried left

-- Entries that were tried.

abbrev pub attempt_at : ℕ → Entry → Attempt
attempt_at number entry = (number, entry)

pub same_attempt : (number place : ℕ) (noted asked : Entry) → number ≡ place → noted ≡ asked → attempt_at number noted ≡ attempt_at place asked
same_attempt number place noted asked at is = ap (λ (n : ℕ). attempt_at n noted) at ∙ ap (λ (e : Entry). attempt_at place e) is

pub wider : (tried more refused : List Attempt) → AllByRecursion (Contains tried) refused → AllByRecursion (Contains (tried ++ more)) refused
wider tried more [] all = tt
wider tried more (attempt ∷ refused) all = (Contains-append_left tried more attempt all.0, wider tried more refused all.1)

all_push : (P : Attempt → Type 0) (attempts : List Attempt) (last : Attempt) → AllByRecursion P attempts → P last → AllByRecursion P (attempts ++ last ∷ [])
all_push P [] last all one = (one, tt)
all_push P (attempt ∷ attempts) last all one = (all.0, all_push P attempts last all.1 one)

-- what a refusal may have tried is noted
pub noted_tried : (tried : List Attempt) (number : ℕ) (asked : Entry) (Fault : Type 0) (refused now : List Attempt) (doubt left : Option Entry) → AllByRecursion (Contains tried) refused
    → steps.IsTried Fault number asked refused doubt now left → AllByRecursion (Contains (tried ++ attempt_at number asked ∷ [])) now
noted_tried tried number asked Fault refused now doubt left all (Untouched is same) =
    subst (λ (l : List Attempt). AllByRecursion (Contains (tried ++ attempt_at number asked ∷ [])) l) (sym is) (wider tried (attempt_at number asked ∷ []) refused all)
noted_tried tried number asked Fault refused now doubt left all (Touched is either) =
    subst (λ (l : List Attempt). AllByRecursion (Contains (tried ++ attempt_at number asked ∷ [])) l) (sym is)
    (all_push (Contains (tried ++ attempt_at number asked ∷ [])) refused (attempt_at number asked) (wider tried (attempt_at number asked ∷ []) refused all) (Contains-push tried (attempt_at number asked)))

-- an attempt that was put behind the others, where room was made for it
pub tried_noted : (client number : ℕ) (old mid new : List (Snapshot NotedAttempt)) (attempt is : Option EntryNote) → mid ≡ old
    → ((c : ℕ) → entries_tried c new ≡ entries_tried c mid ++ entry_tried c number attempt) → attempt ≡ is
    → entries_tried client new ≡ entries_tried client old ++ entry_tried client number is
tried_noted client number old mid new attempt is room put same =
    put client
    ∙ ap (λ (l : List (Snapshot NotedAttempt)). entries_tried client l ++ entry_tried client number attempt) room
    ∙ ap (λ (o : Option EntryNote). entries_tried client old ++ entry_tried client number o) same

none_in : (tried : List Attempt) (asked attempt : Attempt) (may : Type 0) → Contains (tried ++ []) attempt → Contains tried attempt ⊎ (may × (asked ≡ attempt))
none_in tried asked attempt may at = ⊎_elim inl (λ there. absurd (in_nothing attempt there)) (Contains-append_cases tried [] attempt at)

one_in : (tried : List Attempt) (asked noted attempt : Attempt) → noted ≡ asked → Contains (tried ++ noted ∷ []) attempt → Contains tried attempt ⊎ (Unit {0} × (asked ≡ attempt))
one_in tried asked noted attempt is at = ⊎_elim inl (λ same. inr (tt, sym is ∙ same)) (Contains-push_cases tried noted attempt at)

-- a refused batch is tried at most, and only where a fault or want of memory refused it
pub write_tries : (client number : ℕ) (tried : List Attempt) (asked : Attempt) (note : EntryNote) → attempt_at number (entry_noted client note) ≡ asked → (why : WriteFault)
    → TriesAtMost asked (MayBeTried why) tried (tried ++ entry_tried client number (attempt_of why note))
write_tries client number tried asked note is (fault.TypeConflict field held last) = λ attempt at. none_in tried asked attempt ⊥ at
write_tries client number tried asked note is fault.HistoryFull = λ attempt at. none_in tried asked attempt ⊥ at
write_tries client number tried asked note is (fault.SeriesFull held) = λ attempt at. none_in tried asked attempt ⊥ at
write_tries client number tried asked note is (fault.CacheFull held) = λ attempt at. none_in tried asked attempt ⊥ at
write_tries client number tried asked note is fault.Memory = λ attempt at. one_in tried asked (attempt_at number (entry_noted client note)) attempt is at
write_tries client number tried asked note is fault.Fault = λ attempt at. one_in tried asked (attempt_at number (entry_noted client note)) attempt is at

pub delete_tries : (client number : ℕ) (tried : List Attempt) (asked : Attempt) (note : EntryNote) → attempt_at number (entry_noted client note) ≡ asked → (why : DeleteFault)
    → TriesAtMost asked (MayBeTriedDelete why) tried (tried ++ entry_tried client number (deletion_attempt_of why note))
delete_tries client number tried asked note is delete_fault.HistoryFull = λ attempt at. none_in tried asked attempt ⊥ at
delete_tries client number tried asked note is delete_fault.Memory = λ attempt at. one_in tried asked (attempt_at number (entry_noted client note)) attempt is at
delete_tries client number tried asked note is delete_fault.Fault = λ attempt at. one_in tried asked (attempt_at number (entry_noted client note)) attempt is at

-- a store that stayed as it was refuses whatever it was asked for
pub if_refused : {T : Type 0} (result : Result T WriteFault) (asked : Entry) (old new : Told) → new ≡ old → IfErr result (λ why. Refuses asked (MayBeTried why) old new)
if_refused (Ok number) asked old new same = tt
if_refused (Err why) asked old new same = subst (λ (t : Told). Refuses asked (MayBeTried why) old t) (sym same) (record { own = refl; out = refl; tried = λ attempt at. inl at })

pub if_deletion_refused : {T : Type 0} (result : Result T DeleteFault) (asked : Entry) (old new : Told) → new ≡ old → IfErr result (λ why. Refuses asked (MayBeTriedDelete why) old new)
if_deletion_refused (Ok number) asked old new same = tt
if_deletion_refused (Err why) asked old new same = subst (λ (t : Told). Refuses asked (MayBeTriedDelete why) old t) (sym same) (record { own = refl; out = refl; tried = λ attempt at. inl at })

-- the same where what was tried is noted before the others
module _ (tried : List Attempt) (asked : Attempt) where
  none_before : (attempt : Attempt) (may : Type 0) → Contains ([] ++ tried) attempt → Contains tried attempt ⊎ (may × (asked ≡ attempt))
  none_before attempt may at = inl at

  one_before : (noted attempt : Attempt) → noted ≡ asked → Contains (noted ∷ tried) attempt → Contains tried attempt ⊎ (Unit {0} × (asked ≡ attempt))
  one_before noted attempt is at = ⊎_elim (λ first. ⊎_elim (λ there. absurd (in_nothing attempt there)) (λ same. inr (tt, sym is ∙ same)) (Contains-push_cases [] noted attempt first)) inl
      (Contains-append_cases (noted ∷ []) tried attempt at)

  pub write_tries_before : (client number : ℕ) (note : EntryNote) → attempt_at number (entry_noted client note) ≡ asked → (why : WriteFault)
      → TriesAtMost asked (MayBeTried why) tried (entry_tried client number (attempt_of why note) ++ tried)
  write_tries_before client number note is (fault.TypeConflict field held last) = λ attempt at. none_before attempt ⊥ at
  write_tries_before client number note is fault.HistoryFull = λ attempt at. none_before attempt ⊥ at
  write_tries_before client number note is (fault.SeriesFull held) = λ attempt at. none_before attempt ⊥ at
  write_tries_before client number note is (fault.CacheFull held) = λ attempt at. none_before attempt ⊥ at
  write_tries_before client number note is fault.Memory = λ attempt at. one_before (attempt_at number (entry_noted client note)) attempt is at
  write_tries_before client number note is fault.Fault = λ attempt at. one_before (attempt_at number (entry_noted client note)) attempt is at

  pub delete_tries_before : (client number : ℕ) (note : EntryNote) → attempt_at number (entry_noted client note) ≡ asked → (why : DeleteFault)
      → TriesAtMost asked (MayBeTriedDelete why) tried (entry_tried client number (deletion_attempt_of why note) ++ tried)
  delete_tries_before client number note is delete_fault.HistoryFull = λ attempt at. none_before attempt ⊥ at
  delete_tries_before client number note is delete_fault.Memory = λ attempt at. one_before (attempt_at number (entry_noted client note)) attempt is at
  delete_tries_before client number note is delete_fault.Fault = λ attempt at. one_before (attempt_at number (entry_noted client note)) attempt is at

-- A refusal left the history, and what it may have tried is noted behind the number as it was; or it left the engine as it was, and
-- nothing is.
abbrev pub Stayed : {D R W : Type 0} → Ghosts D R W → Type 0 → Entry → List Attempt → Shard D → Shard D → Type 0
Stayed g Fault asked more old new = (StaysBehind g Fault asked old new × (more ≡ attempt_at old.logs.number asked ∷ [])) ⊎ ((new ≡ old) × (more ≡ []))

one_attempt : (first second : Attempt) → first ≡ second → first ∷ [] ≡ second ∷ []
one_attempt first second is = ap (λ (a : Attempt). a ∷ []) is

pub write_stayed : {D R W : Type 0} (g : Ghosts D R W) (Fault : Type 0) (client number : ℕ) (asked : Entry) (note : EntryNote) (old new : Shard D) (why : WriteFault)
    → attempt_at number (entry_noted client note) ≡ attempt_at old.logs.number asked → StaysBehind g Fault asked old new → (steps.IsDecided why → new ≡ old)
    → Stayed g Fault asked (entry_tried client number (attempt_of why note)) old new
write_stayed g Fault client number asked note old new (fault.TypeConflict field held last) is stays same = inr (same tt, refl)
write_stayed g Fault client number asked note old new fault.HistoryFull is stays same = inr (same tt, refl)
write_stayed g Fault client number asked note old new (fault.SeriesFull held) is stays same = inr (same tt, refl)
write_stayed g Fault client number asked note old new (fault.CacheFull held) is stays same = inr (same tt, refl)
write_stayed g Fault client number asked note old new fault.Memory is stays same = inl (stays, one_attempt (attempt_at number (entry_noted client note)) (attempt_at old.logs.number asked) is)
write_stayed g Fault client number asked note old new fault.Fault is stays same = inl (stays, one_attempt (attempt_at number (entry_noted client note)) (attempt_at old.logs.number asked) is)

pub delete_stayed : {D R W : Type 0} (g : Ghosts D R W) (Fault : Type 0) (client number : ℕ) (asked : Entry) (note : EntryNote) (old new : Shard D) (why : DeleteFault)
    → attempt_at number (entry_noted client note) ≡ attempt_at old.logs.number asked → StaysBehind g Fault asked old new → (why ≡ delete_fault.HistoryFull → new ≡ old)
    → Stayed g Fault asked (entry_tried client number (deletion_attempt_of why note)) old new
delete_stayed g Fault client number asked note old new delete_fault.HistoryFull is stays same = inr (same refl, refl)
delete_stayed g Fault client number asked note old new delete_fault.Memory is stays same = inl (stays, one_attempt (attempt_at number (entry_noted client note)) (attempt_at old.logs.number asked) is)
delete_stayed g Fault client number asked note old new delete_fault.Fault is stays same = inl (stays, one_attempt (attempt_at number (entry_noted client note)) (attempt_at old.logs.number asked) is)

-- the series behind a refusal: those that it added are its own, and it is among what was tried
pub holds_refused : {D R W : Type 0} (g : Ghosts D R W) (Fault : Type 0) (asked : Entry) (first : List (List ℕ)) (entries : List Entry) (tried more now : List Attempt) (old new : Shard D)
    → MakesNone asked old new → Stayed g Fault asked more old new → now ≡ tried ++ more
    → HoldsSeries first entries tried old.logs.series.keys → HoldsSeries first entries now new.logs.series.keys
holds_refused {D} g Fault asked first entries tried more now old new none stayed is was =
    subst (λ (l : List Attempt). HoldsSeries first entries l new.logs.series.keys) (sym is) (⊎_elim
    (λ stays. subst (λ (l : List Attempt). HoldsSeries first entries (tried ++ l) new.logs.series.keys) (sym stays.1)
    (holds_grown first old.logs.series.keys none.more new.logs.series.keys entries tried (attempt_at old.logs.number asked) was none.series none.own))
    (λ left. subst (λ (l : List Attempt). HoldsSeries first entries (tried ++ l) new.logs.series.keys) (sym left.1)
    (subst (λ (l : List Attempt). HoldsSeries first entries l new.logs.series.keys) (sym (append-nil tried))
    (subst (λ (s : Shard D). HoldsSeries first entries tried s.logs.series.keys) (sym left.0) was)))
    stayed)

pub made-last : (made : List Made) (one : Made) → entries_made (made ++ one ∷ []) ≡ entries_made made ++ one.entry ∷ []
made-last [] one = refl
made-last (first ∷ made) one = ap (λ (es : List Entry). first.entry ∷ es) (made-last made one)

-- Views.

pub one_out : (views : ℕ) → replicate {A = ℕ} (views + 1) 0 ≡ 0 ∷ replicate views 0
one_out views = let e : views + 1 ≡ suc views = omega arith in ap (λ (n : ℕ). replicate {A = ℕ} n 0) e

module _ {D R W : Type 0} (g : Ghosts D R W) (WasSound : ℕ → Type 0) (start : State) (first : List (List ℕ)) (handed : HandedOut) where
  -- At the start.
  pub holds_none : (shard : Shard D) → IsReady g shard → state_of shard ≡ start → shard.logs.series.keys ≡ first → (IsTrue g.tells → (since : ℕ) → WasSound since → HasRun g start since [] [] shard)
      → g.handed_out shard.logs.disk ≡ handed → Holds g WasSound start first handed [] [] shard
  holds_none shard ready at series ran handed_out = record {
    ready = ready;
    state = at ∙ same_state _ _ _ _ refl (omega arith);
    series = subst (λ (keys : List (List ℕ)). HoldsSeries first [] [] keys) (sym series) (holds_nothing first);
    ran = ran;
    handed_out = handed_out;
  }

  -- Views change nothing but their count.
  pub holds_views : (views : ℕ) (entries : List Entry) (tried : List Attempt) (shard : Shard D) → views ≤ shard.settings.views
      → Holds g WasSound start first handed entries tried shard → Holds g WasSound start first handed entries tried (record shard { views = views })
  holds_views views entries tried shard few holds = record {
    ready = record { logs = holds.ready.logs; views = few };
    state = holds.state;
    series = holds.series;
    ran = λ tells since sound. let was = holds.ran tells since sound in record { made = was.made; are = was.are; refused = was.refused; were_tried = was.were_tried; doubt = was.doubt; runs = record { logs = was.runs.logs; points = was.runs.points } };
    handed_out = holds.handed_out;
  }

  -- A refusal leaves the entries.
  pub holds_same : (entries : List Entry) (tried more now : List Attempt) (old new : Shard D) (asked : Entry) (Fault : Type 0) → Holds g WasSound start first handed entries tried old
      → MakesNone asked old new → IsReady g new → Stayed g Fault asked more old new → g.handed_out new.logs.disk ≡ g.handed_out old.logs.disk → now ≡ tried ++ more → Holds g WasSound start first handed entries now new
  holds_same entries tried more now old new asked Fault holds none ready stayed same is = record {
    ready = ready;
    state = none.state ∙ holds.state;
    series = holds_refused g Fault asked first entries tried more now old new none stayed is holds.series;
    ran = λ tells since sound.
        let was = holds.ran tells since sound in
        subst (λ (l : List Attempt). HasRun g start since entries l new) (sym is) (⊎_elim
        (λ stays.
        let then = stays.0 tells start since was.made was.refused was.doubt was.runs in
        subst (λ (l : List Attempt). HasRun g start since entries (tried ++ l) new) (sym stays.1) (record {
          made = was.made;
          are = was.are;
          refused = then.0;
          were_tried = noted_tried tried old.logs.number asked Fault was.refused then.0 was.doubt then.1 was.were_tried then.2;
          doubt = then.1;
          runs = then.3;
        }))
        (λ left. record {
          made = was.made;
          are = was.are;
          refused = was.refused;
          were_tried = wider tried more was.refused was.were_tried;
          doubt = was.doubt;
          runs = subst (λ (s : Shard D). Runs g s start since was.made was.refused was.doubt) (sym left.0) was.runs;
        })
        stayed);
    handed_out = same ∙ holds.handed_out;
  }

  -- An entry more.
  pub holds_more : (entries more : List Entry) (tried : List Attempt) (made : Entry) (number : ℕ) (old new : Shard D) → Holds g WasSound start first handed entries tried old
      → MakesEntry made number old new → IsReady g new → GoesTo g made old new → g.handed_out new.logs.disk ≡ g.handed_out old.logs.disk → more ≡ entries ++ made ∷ [] → Holds g WasSound start first handed more tried new
  holds_more entries more tried made number old new holds makes ready goes same is = subst (λ (es : List Entry). Holds g WasSound start first handed es tried new) (sym is) (record {
    ready = ready;
    state = makes.state ∙ ap (λ (s : State). state_after s (made ∷ [])) holds.state ∙ sym (state_after-append start entries (made ∷ []));
    series = holds_then first old.logs.series.keys new.logs.series.keys entries (made ∷ []) tried holds.series makes.series;
    ran = λ tells since sound.
        let was = holds.ran tells since sound in
        let last : Made = record { entry = made; moment = (g.crashes new.logs.disk).moment } in
        record {
          made = was.made ++ last ∷ [];
          are = made-last was.made last ∙ ap (λ (es : List Entry). es ++ made ∷ []) was.are;
          refused = was.refused;
          were_tried = was.were_tried;
          doubt = None;
          runs = goes tells start since was.made was.refused was.doubt was.runs;
        };
    handed_out = same ∙ holds.handed_out;
  })

  module _ (client : ℕ) where
    pub begins : (need : Need) (shown : Shown) (entries : List Entry) (tried : List Attempt) (old : Shard D) → Holds g WasSound start first handed entries tried old → Lends need shown old
        → Begins need shown 0 false (told_of client start first entries tried old) (told_of client start first entries tried (record old { views = old.views + 1 }))
    begins need shown entries tried old holds lends = record {
      number = lends.number ∙ ap (λ (s : State). s.number) holds.state;
      gives = λ tells. subst (λ (s : State). Gives s.points need shown) holds.state lends.gives;
      sound = λ tells. subst (λ (s : State). IsSound s.points) holds.state lends.sound;
      timed = λ tells. subst (λ (s : State). All (λ point. IsMoment point.0.time) s.points) holds.state lends.timed;
      own = refl;
      tried = refl;
      out = one_out old.views;
      told_is_whole = λ tells. refl;
      unlimited_is_whole = λ none. refl;
    }

    pub ended : (views : ℕ) (entries : List Entry) (tried : List Attempt) (old : Shard D) → old.views ≡ views + 1
        → Ends 0 (told_of client start first entries tried old) (told_of client start first entries tried (record old { views = views }))
    ended views entries tried old is = record {
      own = refl;
      tried = refl;
      out = sym (ap (λ (n : ℕ). without 0 (replicate {A = ℕ} n 0)) is ∙ ap (λ (l : List ℕ). without 0 l) (one_out views));
    }

    pub accepts : (entries more : List Entry) (tried : List Attempt) (made : Entry) (number : ℕ) (old new : Shard D) → Holds g WasSound start first handed entries tried old
        → MakesEntry made number old new → more ≡ entries ++ made ∷ [] → Accepts made number (told_of client start first entries tried old) (told_of client start first more tried new)
    accepts entries more tried made number old new holds makes is = record {
      before = entries;
      later = record { since = []; begins = sym (append-nil entries) };
      entry = is;
      accepted = λ tells. subst (λ (s : State). TakesEntry s.points made) holds.state makes.taken;
      given = let now = counted in let len = ap length is in let sum = length-append entries (made ∷ []) in omega (arith, now, len, sum);
      limit = makes.limit;
      own = ap (λ (es : List Entry). numbers_from (start.number + 1) es) is ∙ numbers-last (start.number + 1) entries made
          ∙ ap (λ (n : ℕ). numbers_from (start.number + 1) entries ++ n ∷ []) (let now = counted in omega (arith, now));
      out = ap (λ (n : ℕ). replicate n 0) makes.views;
      tried = refl;
    }
      where
        counted : number ≡ start.number + length entries + 1
        counted =
            let a = makes.given in
            let b = ap (λ (s : State). s.number) makes.state in
            let c = ap (λ (s : State). s.number) holds.state in
            omega (arith, a, b, c)

    pub keeps : (entries more : List Entry) (tried : List Attempt) (made : Entry) (number : ℕ) (old new : Shard D) → MakesEntry made number old new → more ≡ entries ++ made ∷ []
        → Keeps (told_of client start first entries tried old) (told_of client start first more tried new)
    keeps entries more tried made number old new makes is = record {
      client = refl;
      start = refl;
      tells = refl;
      is_alone = refl;
      alone = λ alone owns. refl;
      limits = ap (λ settings. Some (record { cached = length start.points; most_cached = settings.cache_points; series = first; most_series = settings.series })) makes.settings;
      history = record { since = made ∷ []; begins = is };
      series = let len = ap length makes.series.from_start in let sum = length-append old.logs.series.keys makes.series.more in omega (arith, len, sum);
    }

    pub keeps_none : (entries : List Entry) (tried now : List Attempt) (asked : Entry) (old new : Shard D) → MakesNone asked old new → Keeps (told_of client start first entries tried old) (told_of client start first entries now new)
    keeps_none entries tried now asked old new none = record {
      client = refl;
      start = refl;
      tells = refl;
      is_alone = refl;
      alone = λ alone owns. refl;
      limits = ap (λ settings. Some (record { cached = length start.points; most_cached = settings.cache_points; series = first; most_series = settings.series })) none.settings;
      history = record { since = []; begins = sym (append-nil entries) };
      series = let len = ap length none.series in let sum = length-append old.logs.series.keys none.more in omega (arith, len, sum);
    }

    pub refuses : (entries : List Entry) (tried more now : List Attempt) (asked : Entry) (may : Type 0) (old new : Shard D) → Holds g WasSound start first handed entries tried old → MakesNone asked old new
        → TriesAtMost (attempt_at old.logs.number asked) may tried (tried ++ more) → now ≡ tried ++ more
        → Refuses asked may (told_of client start first entries tried old) (told_of client start first entries now new)
    refuses entries tried more now asked may old new holds none tries is = record {
      own = refl;
      out = ap (λ (n : ℕ). replicate n 0) none.views;
      tried = subst (λ (n : ℕ). TriesAtMost (attempt_at n asked) may tried now) (ap (λ (s : State). s.number) holds.state)
          (subst (λ (l : List Attempt). TriesAtMost (attempt_at old.logs.number asked) may tried l) (sym is) tries);
    }

    -- Why a deletion was refused.
    pub delete_cause : (entries : List Entry) (tried now : List Attempt) (old new : Shard D) → Holds g WasSound start first handed entries tried old → (old_health new_health : Health) (why : DeleteFault)
        → deleting.HasCause old old_health new_health why → DeleteHasCause (told_of client start first entries now new) old_health new_health why
    delete_cause entries tried now old new holds old_health new_health delete_fault.HistoryFull is = sym (ap (λ (s : State). s.number) holds.state) ∙ is
    delete_cause entries tried now old new holds old_health new_health delete_fault.Memory is = tt
    delete_cause entries tried now old new holds old_health new_health delete_fault.Fault is = (is.0, subst (λ (s : State). s.number < last_number) holds.state is.1)

    -- Why a batch was refused.
    module _ (entries : List Entry) (tried now : List Attempt) (old new : Shard D) (points : List Point) (holds : Holds g WasSound start first handed entries tried old) (kept : steps.Keeps old new) where
      within : (text : List ℕ) → is_among (all_texts (limits_of start first new) entries) text ≡ true → is_among old.logs.series.keys text ≡ true
      within = within_held first old.logs.series.keys entries tried holds.series

      grown : length old.logs.series.keys ≤ length new.logs.series.keys
      grown = let len = ap length kept.series in let sum = length-append old.logs.series.keys kept.more in omega (arith, len, sum)

      is_open : steps.IsOpen points old → IsOpen points (told_of client start first entries now new)
      is_open o = record {
        accepted = λ tells. subst (λ (s : State). IsAccepted s.points points) holds.state o.accepted;
        number = subst (λ (s : State). s.number < last_number) holds.state o.number;
      }

      fits : steps.FitsSeries points old → FitsSeries points (told_of client start first entries now new) (limits_of start first new)
      fits f = record {
        held = length (known_of (limits_of start first new) entries);
        known = known_of (limits_of start first new) entries;
        new = new_of (limits_of start first new) entries points;
        are_known = are_known (limits_of start first new) entries;
        are_new = are_new (limits_of start first new) entries points;
        no_fewer = omega arith;
        are_held = let few = known_few (limits_of start first new) entries points old.logs.series.keys f.new f.are within in let more = grown in omega (arith, few, more);
        fits =
            let all = all_few (limits_of start first new) entries points old.logs.series.keys f.new f.are within in
            let fit = f.fits in
            let same = ap (λ settings. settings.series) kept.settings in
            omega (arith, all, fit, same);
      }

      passes : (held : ℕ) → steps.PassesSeries points old → held ≡ length old.logs.series.keys → PassesSeries points held (length new.logs.series.keys) entries (limits_of start first new)
      passes held p is = record {
        new = new_of (limits_of start first new) entries points;
        are_new = are_new (limits_of start first new) entries points;
        are_held = let more = grown in omega (arith, more, is);
        passes =
            let few = unheld_few (limits_of start first new) entries points old.logs.series.keys p.new p.are within in
            let past = p.passes in
            let same = ap (λ settings. settings.series) kept.settings in
            omega (arith, few, past, same, is);
      }

      cached : (held : ℕ) → held ≡ length old.live.points → old.settings.cache_points < held + length points → PassesCache points held entries (limits_of start first new)
      cached held is past = record {
        are_held =
            let few = few_left start.points entries in
            let now = ap (λ (s : State). length s.points) holds.state in
            omega (arith, few, now, is);
        passes = let same = ap (λ settings. settings.cache_points) kept.settings in omega (arith, past, same);
      }

      pub cause : (old_health new_health : Health) (why : WriteFault) → steps.HasCause points old old_health new_health why
          → WriteHasCause points (told_of client start first entries now new) old_health new_health why
      cause old_health new_health (fault.TypeConflict field held number) is =
          (record { stored = old.live.points; are_told = λ tells. ap (λ (s : State). s.points) holds.state; in_conflict = is.0 }, is.1 ∙ ap (λ (s : State). s.number) holds.state)
      cause old_health new_health fault.HistoryFull is =
          ((λ tells. subst (λ (s : State). IsAccepted s.points points) holds.state is.0), sym (ap (λ (s : State). s.number) holds.state) ∙ is.1)
      cause old_health new_health (fault.SeriesFull held) is = (is_open is.0, passes held is.1 is.2)
      cause old_health new_health (fault.CacheFull held) is = (is_open is.0, fits is.1, cached held is.2 is.3)
      cause old_health new_health fault.Memory is = tt
      cause old_health new_health fault.Fault is =
          (is.0, is_open is.1, fits is.2, (let same = ap (λ settings. settings.cache_points) kept.settings in let few = is.3 in omega (arith, same, few)))
