-- A session over the store of one engine is explained by its history, and the closed disk has it.
use Rattle.std.proofs.Common.{◌≡◌, ℕ, ◌+◌, ◌≤◌, min, Bool, true, List, [], ◌∷◌, ◌++◌, length, refl, sym, ap, ◌∙◌, subst, arith, Option, Some, None, IsPermutation, Contains, ◌⊎◌, inl, inr, ⊎_elim}
use Rattle.std.specs.Prelude.{IsTrue, OnErr, OnOk, Result}
use Rattle.std.specs.declared.result.Result.TheVariants.{Ok, Err}
use Rattle.std.specs.List.{AllByRecursion}
use Rattle.std.specs.Option.{option_to_list}
use Rattle.std.proofs.lemmas.List.{append-nil}
use Rattle.std.proofs.lemmas.List.Elements.{Contains-append_left, Contains-append_right, Contains-push}
use Rattle.std.proofs.lemmas.List.Sorted.{IsPermutation-refl}
use Rattle.shard_disk.specs.Directory.{Directory}
use Rattle.shard_disk.specs.Health.{HasCause as FaultHasCause, Health, last_count}
use Rattle.shard_disk.specs.declared.disk.Disk.{Ghosts}
use Rattle.shard_disk.specs.declared.trouble.Trouble.{Trouble}
use Rattle.point_model.specs.Histories.{State, state_after}
use Rattle.point_model.specs.declared.entry.Entry.{Entry}
use Rattle.store_trait.specs.Told.{IsAlike, Keeps, Limits, OwnsAll, Told, numbers_from as store_numbers, state_now}
use Rattle.engine_session.proofs.LookLemmas.{look_makes_none}
use Rattle.session_io.specs.declared.report.Report.{Report}
use Rattle.session_model.specs.Machine.{Answer}
use Rattle.session_model.specs.Explained.{Dialogue, ExplainedBut, IsTriedIn, Transcript, all_answers, own_numbers, numbers_from}
use Rattle.session_loop.specs.Sessions.{IsDialogue, IsSession, Told as Client, faults_in}
use Rattle.session_loop.specs.Composed.{IsPart, Part, Whole}
use Rattle.session_loop.specs.Steps.{HasCause, Stored}
use Rattle.session_loop.proofs.ComposedLemmas.{all_told, tried_first}
use Rattle.session_loop.proofs.MemoryLemmas.{same_numbers}
use Rattle.shard_state.specs.Books.{state_in}
use Rattle.shard_state.specs.Calls.{Closes}
use Rattle.shard_state.specs.History.{AreKept, Attempt, StandsForPrefix, WasRefused}
use Rattle.shard_state.specs.Meaning.{NamesSeries, Stands, StandsWithAtMost}
use Rattle.shard_state.specs.Opening.{IsSoundAtOpening, IsSoundThroughout, IsSoundWithAtMost}
use Rattle.gate_log.proofs.Results.{on_ok_then}
use Rattle.shard_state.proofs.Entering.{on_err_then}
use Rattle.shard_calls.specs.Holds.{HasRun, HoldsSeries}
use Rattle.shard_calls.proofs.StoreLemmas.{holds_nothing}
use Rattle.shard_calls.specs.Told.{limits_of, told_of}
use Rattle.shard_steps.specs.Shards.{state_of}
use Rattle.shard_steps.specs.declared.shard.Shard.{Shard}
use Rattle.engine_session.specs.Durable.{Lasts}
use Rattle.engine_session.specs.Serving.{AreServed, ClientSession, Serves}
use Rattle.engine_session.specs.declared.serving.Ended.{Ended}

-- ---- what the client was told

-- a store that began so: for the first client, alone, with limits, telling its points
pub record BeginsWith (start : State) (limits : Limits) (old : Told) : Type 0 where
  pub begins : old.start ≡ start
  pub client : old.client ≡ 0
  pub tells : old.tells ≡ true
  pub alone : IsTrue old.is_alone
  pub limited : old.limits ≡ Some limits
  pub history : old.history ≡ []
  pub own : old.own ≡ []
  pub tried : old.tried ≡ []

none_in : {attempt : Attempt} → Contains [] attempt → ⊥
none_in at = let below = at.1 in omega (arith, below)

-- what holds of each member of a list holds of all
pub each_in : (P : Attempt → Type 0) (attempts : List Attempt) → ((attempt : Attempt) → Contains attempts attempt → P attempt) → AllByRecursion P attempts
each_in P [] holds = tt
each_in P (one ∷ attempts) holds = (holds one (Contains-append_left (one ∷ []) attempts one (Contains-push [] one)), each_in P attempts (λ other at. holds other (Contains-append_right (one ∷ []) attempts other at)))

module _ (start : State) (limits : Limits) (held : ℕ) (old new : Stored) (transcript : Transcript) (dialogue : Dialogue) (begins : BeginsWith start limits old.told) (is : IsDialogue old new transcript dialogue)
    (few : new.told.series ≤ held) where
  abbrev whole : Whole
  whole = record { start = start; tells = true; limits = Some limits; series = held; history = new.told.history }

  abbrev part : Part
  part = record { old = old; new = new; transcript = transcript; dialogue = dialogue }

  -- what the store held at its end bounds what it told, and so does what is held later
  abbrev is_part : IsPart whole 0 part
  is_part = record {
    is = is;
    whose = is.kept.client ∙ begins.client;
    none_own = begins.own;
    start = sym (is.kept.start ∙ begins.begins);
    tells = sym (is.kept.tells ∙ begins.tells);
    limits = sym (is.kept.limits ∙ begins.limited);
    series = few;
    knew = record { since = []; begins = sym (append-nil new.told.history) };
  }

  pub numbers : own_numbers dialogue ≡ numbers_from (start.number + 1) new.told.history
  numbers =
      let owned : OwnsAll old.told = begins.own ∙ sym (ap (λ (h : List Entry). store_numbers (old.told.start.number + 1) h) begins.history) in
      let owns : OwnsAll new.told = is.kept.alone (subst (λ (b : Bool). IsTrue b) (sym is.kept.is_alone) begins.alone) owned in
      sym (is.own ∙ ap (λ (l : List ℕ). l ++ own_numbers dialogue) begins.own) ∙ owns
      ∙ ap (λ (s : State). store_numbers (s.number + 1) new.told.history) (is.kept.start ∙ begins.begins) ∙ same_numbers (start.number + 1) new.told.history

  -- what the store tells as tried, the client was refused at its place
  pub asked_for : AllByRecursion (IsTriedIn true (HasCause true (Some limits) held start) start new.told.history 0 (transcript ∷ []) (dialogue ∷ []) (all_told whole 0 (part ∷ []) (is_part, tt))) new.told.tried
  asked_for = each_in (IsTriedIn true (HasCause true (Some limits) held start) start new.told.history 0 (transcript ∷ []) (dialogue ∷ []) (all_told whole 0 (part ∷ []) (is_part, tt))) new.told.tried (λ attempt at. ⊎_elim
      (λ before. absurd (none_in (subst (λ (l : List Attempt). Contains l attempt) begins.tried before)))
      (λ asked. asked)
      (tried_first whole 0 part [] (is_part, tt) attempt at))

  abbrev explained : ExplainedBut true (HasCause true (Some limits) held start) start new.told.history (transcript ∷ [])
  explained = record {
    dialogues = dialogue ∷ [];
    told = all_told whole 0 (part ∷ []) (is_part, tt);
    each_once = subst (λ (l : List ℕ). IsPermutation l (numbers_from (start.number + 1) new.told.history)) (sym (append-nil (own_numbers dialogue) ∙ numbers)) (IsPermutation-refl (numbers_from (start.number + 1) new.told.history));
  }

pub served_from : (start : State) (limits : Limits) (held : ℕ) (before now : Client) (old new : Stored) (report : Report) → BeginsWith start limits old.told → IsSession before now old new report
    → new.told.series ≤ held → AreServed (record { before = before; now = now; report = report } ∷ []) start limits held new.told.history new.told.tried old.health new.health
served_from start limits held before now old new report begins session few =
    let same = append-nil (all_answers session.dialogue) in
    record {
      transcripts = session.transcript ∷ [];
      are = (
        record {
          read = session.read;
          left = session.left;
          ended = session.ended;
          all_read = session.all_read;
          moments = session.moments;
          written = session.written;
          reported = session.reported;
        },
        tt,
      );
      explained = explained start limits held old new session.transcript session.dialogue begins session.is few;
      ages = session.is.ages;
      faults = subst (λ (l : List Answer). min (old.health.faults + faults_in l) last_count ≤ new.health.faults) (sym same) session.is.faults;
      quiet = λ none. session.is.quiet (ap (λ (l : List Answer). faults_in l) (sym same) ∙ none);
      asked = asked_for start limits held old new session.transcript session.dialogue begins session.is few;
    }

-- what a store over an engine tells at its start
pub begins_with : {D : Type 0} (start : State) (first : List (List ℕ)) (shard : Shard D) (old : Told) → old ≡ told_of 0 start first [] [] shard → BeginsWith start (limits_of start first shard) old
begins_with start first shard old is = subst (λ (t : Told). BeginsWith start (limits_of start first shard) t) (sym is) (record { begins = refl; client = refl; tells = refl; alone = refl; limited = refl; history = refl; own = refl; tried = refl })

-- the store's entries are all its own, so its number counts them, and a look at it makes none
module _ (start : State) (limits : Limits) (before now : Client) (old new : Stored) (report : Report) (begins : BeginsWith start limits old.told) (session : IsSession before now old new report) (last : Told) (kept : Keeps new.told last)
    (alike : IsAlike new.told last) where
  still_alone : IsTrue new.told.is_alone
  still_alone = subst (λ (b : Bool). IsTrue b) (sym session.is.kept.is_alone) begins.alone

  pub same_history : last.history ≡ new.told.history
  same_history = look_makes_none new.told last kept alike (subst (λ (b : Bool). IsTrue b) (sym kept.is_alone) still_alone)
      (session.is.kept.alone still_alone (begins.own ∙ sym (ap (λ (h : List Entry). store_numbers (old.told.start.number + 1) h) begins.history)))

  pub counts : (number : ℕ) → number ≡ (state_now last).number → number ≡ start.number + length new.told.history
  counts number is = is ∙ ap (λ (s : State). s.number + length last.history) (kept.start ∙ session.is.kept.start ∙ begins.begins) ∙ ap (λ (h : List Entry). start.number + length h) same_history

-- ---- what the disk was left with

module _ {D R W : Type 0} (g : Ghosts D R W) (start : State) (since : ℕ) (history : List Entry) (tried : List Attempt) (shard : Shard D) (disk : D) (closed : Result (Unit {0}) Trouble) (closes : Closes g shard.logs disk closed) (told : IsTrue g.tells)
    (ran : HasRun g start since history tried shard) where
  state_is : state_in ran.runs.logs.books ≡ state_after start history
  state_is = ran.runs.logs.is ∙ ap (λ (l : List Entry). state_after start l) ran.are

  each : (c : Directory) → (g.crashes disk).since since c → StandsForPrefix start history ran.refused 0 c
  each c left = subst (λ (l : List Entry). StandsForPrefix start l ran.refused 0 c) ran.are ((closes.ran told start since ran.made ran.refused ran.doubt ran.runs.logs).each c left)

  kept : AreKept (g.crashes disk) start history ran.refused 0 ran.made
  kept = subst (λ (l : List Entry). AreKept (g.crashes disk) start l ran.refused 0 ran.made) ran.are (closes.ran told start since ran.made ran.refused ran.doubt ran.runs.logs).kept

  lasts_ok : IsSoundThroughout g disk (state_in ran.runs.logs.books) → OnOk closed (IsSoundThroughout g disk (state_after start history)) → Lasts g disk since start history tried closed
  lasts_ok sound exactly = record {
    later = (closes.ran told start since ran.made ran.refused ran.doubt ran.runs.logs).later;
    made = ran.made;
    are = ran.are;
    refused = ran.refused;
    were_tried = ran.were_tried;
    doubt = None;
    asked = tt;
    each = each;
    kept = kept;
    now = λ c now. subst (λ (s : State). Stands c s) state_is (sound.images c now);
    again = subst (λ (s : State). IsSoundAtOpening g disk s) state_is sound.sound;
    exactly = exactly;
  }

  abbrev Left : Type 0
  Left = IsSoundWithAtMost g disk (state_in ran.runs.logs.books) (option_to_list ran.doubt) × ((c : Directory) → (g.crashes disk).now c → StandsWithAtMost (state_in ran.runs.logs.books) (option_to_list ran.doubt) c)

  lasts_err : Left → OnOk closed (IsSoundThroughout g disk (state_after start history)) → Lasts g disk since start history tried closed
  lasts_err left exactly = record {
    later = (closes.ran told start since ran.made ran.refused ran.doubt ran.runs.logs).later;
    made = ran.made;
    are = ran.are;
    refused = ran.refused;
    were_tried = ran.were_tried;
    doubt = ran.doubt;
    asked = subst (λ (l : List Entry). AllByRecursion (WasRefused ran.refused (start.number + length l)) (option_to_list ran.doubt)) ran.are ran.runs.logs.asked;
    each = each;
    kept = kept;
    now = λ c now. subst (λ (s : State). StandsWithAtMost s (option_to_list ran.doubt) c) state_is (left.1 c now);
    again = subst (λ (s : State). IsSoundWithAtMost g disk s (option_to_list ran.doubt)) state_is left.0;
    exactly = exactly;
  }

  abbrev Sound : Type 0
  Sound = IsSoundThroughout g disk (state_in ran.runs.logs.books)

  lasts_either : (r : Result (Unit {0}) Trouble) → closed ≡ r → OnOk r Sound → OnErr r Left → Lasts g disk since start history tried closed
  lasts_either (Ok x) is ok err =
      lasts_ok ok (subst (λ (r : Result (Unit {0}) Trouble). OnOk r (IsSoundThroughout g disk (state_after start history))) (sym is) (subst (λ (s : State). IsSoundThroughout g disk s) state_is ok))
  lasts_either (Err e) is ok err = lasts_err err (subst (λ (r : Result (Unit {0}) Trouble). OnOk r (IsSoundThroughout g disk (state_after start history))) (sym is) (record {}))

  pub lasts : Lasts g disk since start history tried closed
  lasts = lasts_either closed refl (on_ok_then closed (λ ok. ok told ran.runs.logs.books ran.doubt ran.runs.logs.holds) closes.ok)
      (on_err_then closed (λ err. err told ran.runs.logs.books ran.doubt ran.runs.logs.holds) closes.refused)

  -- the series file of the closed directory
  pub stored : (more : List (List ℕ)) × NamesSeries (g.files disk) (shard.logs.series.keys ++ more)
  stored = closes.series told ran.runs.logs.books ran.doubt ran.runs.logs.holds

-- ---- both

module _ {D R W : Type 0} (g : Ghosts D R W) (before now : Client) (start : State) (first : List (List ℕ)) (engine : Shard D) (is : state_of engine ≡ start) (held_first : engine.logs.series.keys ≡ first) (old new : Stored)
    (told : old.told ≡ told_of 0 start first [] [] engine) (health : old.health ≡ g.health engine.logs.disk) (ended : Ended D) (session : IsSession before now old new ended.report) (last : Told) (kept : Keeps new.told last) (alike : IsAlike new.told last) where
  abbrev one : List ClientSession
  one = record { before = before; now = now; report = ended.report } ∷ []

  begins : BeginsWith start (limits_of start first engine) old.told
  begins = begins_with start first engine old.told told

  served : (held : ℕ) → new.told.series ≤ held
      → AreServed one (state_of engine) (limits_of (state_of engine) engine.logs.series.keys engine) held new.told.history new.told.tried (g.health engine.logs.disk) new.health
  served held few =
      subst (λ (h : Health). AreServed one (state_of engine) (limits_of (state_of engine) engine.logs.series.keys engine) held new.told.history new.told.tried h new.health) health
      (subst (λ (s : State). AreServed one s (limits_of s engine.logs.series.keys engine) held new.told.history new.told.tried old.health new.health) (sym is)
      (subst (λ (l : List (List ℕ)). AreServed one start (limits_of start l engine) held new.told.history new.told.tried old.health new.health) (sym held_first)
      (served_from start (limits_of start first engine) held before now old new ended.report begins session few)))

  pub serves : ended.number ≡ (state_now last).number → (shard : Shard D) → (IsTrue g.tells → (since : ℕ) → HasRun g start since [] [] engine → HasRun g start since last.history last.tried shard)
      → HoldsSeries first last.history last.tried shard.logs.series.keys → last.series ≡ length shard.logs.series.keys
      → Closes g shard.logs ended.disk ended.closed → new.health ≡ g.health shard.logs.disk → g.handed_out shard.logs.disk ≡ g.handed_out engine.logs.disk → Serves g one engine ended.disk ended.number ended.closed
  serves number shard ran holds_last counted_last closes left handed =
      let same = same_history start (limits_of start first engine) before now old new ended.report begins session last kept alike in
      let was_run : IsTrue g.tells → (since : ℕ) → HasRun g (state_of engine) since [] [] engine → HasRun g start since new.told.history new.told.tried shard =
      λ told since first_run. subst (λ (h : List Entry). HasRun g start since h new.told.tried shard) same
      (subst (λ (l : List Attempt). HasRun g start since last.history l shard) alike.tried (ran told since (subst (λ (s : State). HasRun g s since [] [] engine) is first_run))) in
      record {
        history = new.told.history;
        tried = new.told.tried;
        held = shard.logs.series.keys;
        holds = subst (λ (l : List (List ℕ)). HoldsSeries l new.told.history new.told.tried shard.logs.series.keys) (sym held_first)
            (subst (λ (h : List Entry). HoldsSeries first h new.told.tried shard.logs.series.keys) same
            (subst (λ (l : List Attempt). HoldsSeries first last.history l shard.logs.series.keys) alike.tried holds_last));
        middle = new.health;
        served = served (length shard.logs.series.keys) (let more = kept.series in omega (arith, more, counted_last));
        counted = counts start (limits_of start first engine) before now old new ended.report begins session last kept alike ended.number number ∙ ap (λ (s : State). s.number + length new.told.history) (sym is);
        lasts = λ told since first_run.
            subst (λ (s : State). Lasts g ended.disk since s new.told.history new.told.tried ended.closed) (sym is)
            (lasts g start since new.told.history new.told.tried shard ended.disk ended.closed closes told (was_run told since first_run));
        stored = λ told since first_run. stored g start since new.told.history new.told.tried shard ended.disk ended.closed closes told (was_run told since first_run);
        closing = subst (λ (h : Health). FaultHasCause ended.closed h (g.health ended.disk)) (sym left) closes.fault;
        handed_out = closes.handed_out ∙ handed;
      }

-- ---- nobody

module _ {D R W : Type 0} (g : Ghosts D R W) (engine : Shard D) (disk : D) (number : ℕ) (closed : Result (Unit {0}) Trouble) where
  pub serves_none : number ≡ (state_of engine).number → Closes g engine.logs disk closed → Serves g [] engine disk number closed
  serves_none is closes = record {
    history = [];
    tried = [];
    held = engine.logs.series.keys;
    holds = holds_nothing engine.logs.series.keys;
    middle = g.health engine.logs.disk;
    served = record {
      transcripts = [];
      are = tt;
      explained = record { dialogues = []; told = tt; each_once = IsPermutation-refl [] };
      ages = record { later = omega arith; steady = λ steady. refl };
      faults = omega arith;
      quiet = λ none. refl;
      asked = tt;
    };
    counted = omega (arith, is);
    lasts = λ told since run. lasts g (state_of engine) since [] [] engine disk closed closes told run;
    stored = λ told since run. stored g (state_of engine) since [] [] engine disk closed closes told run;
    closing = closes.fault;
    handed_out = closes.handed_out;
  }
