-- From the first pass to the engine that is handed back.
use Rattle.std.proofs.Common.{◌≡◌, ◌≤◌, ◌<◌, ◌+◌, ℕ, zero, suc, replicate, append-nil, List, [], ◌∷◌, ◌++◌, length, map, min, Option, Some, true, slice_index_or, refl, sym, ap, ◌∙◌, subst, arith, Contains}
use Rattle.std.specs.List.{AllByRecursion, flat_map}
use Rattle.std.proofs.lemmas.List.Elements.{All-weaker}
use Rattle.shard_disk.specs.Health.{last_count}
use Rattle.shard_disk.specs.declared.disk.Disk.{Ghosts}
use Rattle.point_model.specs.Histories.{State}
use Rattle.session_model.specs.Explained.{IsTriedIn, all_answers}
use Rattle.session_loop.specs.Composed.{Part}
use Rattle.session_loop.specs.Sessions.{faults_in}
use Rattle.session_loop.specs.Steps.{HasCause}
use Rattle.session_loop.proofs.ComposedLemmas.{all_told}
use Rattle.history_turn.specs.Calls.{Closed}
use Rattle.history_turn.specs.Histories.{StartsWith, numbers_after}
use Rattle.history_turn.specs.Owned.{SameItems, weigh}
use Rattle.history_turn.specs.Passes.{fresh, viewing}
use Rattle.history_turn.specs.Views.{cut, newcomer, part_of}
use Rattle.history_turn.proofs.HistoriesLemmas.{starts_trans}
use Rattle.shard_calls.specs.Holds.{HasRun}
use Rattle.shard_calls.specs.Told.{limits_of}
use Rattle.shard_calls.proofs.StoreLemmas.{holds_nothing}
use Rattle.shard_state.specs.History.{Attempt, Made, entries_of}
use Rattle.shard_steps.specs.Shards.{IsReady, Runs, state_of}
use Rattle.shard_steps.specs.declared.shard.Shard.{Shard}
use Rattle.shard_shared.specs.Entries.{entries_in, faults_lent, lent_by, made_by, most_found, refusals_in, tried_in, tried_lent, views_lent}
use Rattle.shard_shared.specs.Reaching.{ComesFrom, ComesTo, RanFrom, RunsTo, Stands}
use Rattle.shard_shared.specs.Told.{EngineView, number_at}
use Rattle.shard_shared.specs.declared.engine.Engine.{Engine}
use Rattle.shard_shared.specs.declared.engine.Entered.{Entered}
use Rattle.shard_shared.specs.declared.engine.Lent.{Lent}
use Rattle.shard_shared.specs.declared.engine.Lent.TheVariants.{View, Fault, Found}
use Rattle.shard_shared.specs.declared.engine.Refusal.{Refusal}
use Rattle.shard_shared.proofs.EntriesLemmas.{found_few, weigh-lent}
use Rattle.engine_session.specs.Devices.{Devices}
use Rattle.engine_session.specs.Serving.{AreServed}
use Rattle.engine_session.proofs.ServedLemmas.{each_in}
use Rattle.engine_clients.specs.Seats.{JoinsAll, Seat, Served, ServesOne, loans_of, own_of, seated_with, seen_of, unseated}
use Rattle.engine_clients.specs.Served.{ServesTogether}
use Rattle.engine_clients.proofs.ComposeLemmas.{Composes, composed, explained, whole_with}
use Rattle.engine_clients.proofs.EachLemmas.{ServeEach, each_of_places}
use Rattle.engine_clients.proofs.TriedLemmas.{tried_told}

-- ---- an engine at its start

none_made : (made : List Made) → entries_of made ≡ [] → made ≡ []
none_made [] none = refl
none_made (m ∷ made) none = absurd (let e = ap length none in omega (arith, e))

module _ {D R W : Type 0} (g : Ghosts D R W) where
  ran_none : (shard : Shard D) (since : ℕ) → HasRun g (state_of shard) since [] [] shard → RunsTo g (state_of shard) since [] [] shard
  ran_none shard since run = record {
    refused = run.refused;
    were_tried = run.were_tried;
    doubt = run.doubt;
    runs = subst (λ (l : List Made). Runs g shard (state_of shard) since l run.refused run.doubt) (none_made run.made run.are) run.runs;
  }

  abbrev as_state : Shard D → ℕ → State
  as_state shard number = record { points = shard.live.points; number = number }

  -- it came from itself to no entry
  pub comes_to_none : (shard : Shard D) → IsReady g shard → ComesTo g shard 0 [] [] shard
  comes_to_none shard ready = record {
    ready = ready;
    state = ap (λ (n : ℕ). as_state shard n) (omega arith);
    settings = refl;
    series = holds_nothing shard.logs.series.keys;
    handed_out = refl;
    health = record { ages = record { later = omega arith; steady = λ steady. refl }; counted = omega arith; quiet = λ none. refl };
  }

  pub runs_to_none : (shard : Shard D) → RanFrom g (Some shard) [] [] shard
  runs_to_none shard = λ tells since run. ran_none shard since run

-- ---- loans

-- 1 for a fault
abbrev counted : Lent → ℕ
counted View = 0
counted Fault = 1
counted (Found count) = 0

faults_weigh : (loans : List Lent) → faults_lent loans ≡ weigh counted loans
faults_weigh [] = refl
faults_weigh (View ∷ loans) = let more = faults_weigh loans in omega (arith, more)
faults_weigh (Fault ∷ loans) = let more = faults_weigh loans in omega (arith, more)
faults_weigh (Found count ∷ loans) = let more = faults_weigh loans in omega (arith, more)

-- 1 for a view
abbrev viewed : Lent → ℕ
viewed View = 1
viewed Fault = 0
viewed (Found count) = 0

views_weigh : (loans : List Lent) → length (views_lent loans) ≡ weigh viewed loans
views_weigh [] = refl
views_weigh (View ∷ loans) = let more = views_weigh loans in omega (arith, more)
views_weigh (Fault ∷ loans) = let more = views_weigh loans in omega (arith, more)
views_weigh (Found count ∷ loans) = let more = views_weigh loans in omega (arith, more)

weigh_all : (weight : Lent → ℕ) (loan : Lent) (count : ℕ) → weight loan ≡ 1 → weigh weight (replicate count loan) ≡ count
weigh_all weight loan zero one = refl
weigh_all weight loan (suc count) one = let more = weigh_all weight loan count one in omega (arith, one, more)

weigh_none : (weight : Lent → ℕ) (loan : Lent) (count : ℕ) → weight loan ≡ 0 → weigh weight (replicate count loan) ≡ 0
weigh_none weight loan zero none = refl
weigh_none weight loan (suc count) none = let more = weigh_none weight loan count none in omega (arith, none, more)

weigh_counts : (weight : Lent → ℕ) (counts : List Refusal) → ((count : Refusal) → weight (Found count) ≡ 0) → weigh weight (map Found counts) ≡ 0
weigh_counts weight [] none = refl
weigh_counts weight (count ∷ counts) none = let one = none count in let more = weigh_counts weight counts none in omega (arith, one, more)

faults_are : (loans : List Lent) (views faults : ℕ) (counts : List Refusal) → SameItems loans (lent_by views faults counts) → faults_lent loans ≡ faults
faults_are loans views faults counts same =
    let here = faults_weigh loans in
    let all = same.same counted in
    let whole = weigh-lent counted views faults counts in
    let a = weigh_none counted View views refl in
    let b = weigh_all counted Fault faults refl in
    let c = weigh_counts counted counts (λ count. refl) in
    omega (arith, here, all, whole, a, b, c)

none_out : (loans : List Lent) (views faults : ℕ) (counts : List Refusal) → SameItems loans (lent_by views faults counts) → views_lent loans ≡ [] → views ≡ 0
none_out loans views faults counts same none =
    let here = views_weigh loans in
    let empty = ap (λ (l : List ℕ). length l) none in
    let all = same.same viewed in
    let whole = weigh-lent viewed views faults counts in
    let a = weigh_all viewed View views refl in
    let b = weigh_none viewed Fault faults refl in
    let c = weigh_counts viewed counts (λ count. refl) in
    omega (arith, here, empty, all, whole, a, b, c)

capped : (start told count now last : ℕ) → min told last ≤ count → min (start + count) last ≤ now → min (start + told) last ≤ now
capped start told count now last few rose = omega (arith, few, rose)

-- ---- from the first pass to the closed turn

-- what closing the turn tells
abbrev pub Closes : {D R W : Type 0} → Ghosts D R W → EngineView D → Engine D → Type 0
Closes {D} g view left = Closed (λ (x : Engine D) (s : Option (Shard D)) (es : List Entered). Stands g s es x) number_at (λ (s : Option (Shard D)). 0) (λ (x : Engine D). x.faults)
    (λ (x : Engine D). lent_by x.shard.views x.faults (refusals_in x.found.items)) view left

module _ {D R W S K C : Type 0} (g : Ghosts D R W) (members : Devices S K C) (start : Shard D) (first cut_off last : Seat D) (olds starts mids news : List (Served D S K C)) (left : Engine D) where
  -- how the passes and the clients came to the end
  pub record Comes : Type 0 where
    pub newly : first.view ≡ newcomer (Some start)
    pub cut_is : cut_off ≡ viewing first (cut first.view (length olds))
    pub starts_are : starts ≡ map (seated_with (fresh first (part_of first.view 1))) olds
    pub long : length mids ≡ length starts
    pub each : (k : ℕ) (d : Served D S K C) → k < length starts → ServesOne g members k (slice_index_or starts k d) (slice_index_or mids k d)
    pub joins : JoinsAll cut_off mids last
    pub news_are : news ≡ map unseated mids
    pub closes : Closes g last.view left

  abbrev seat : Seat D
  seat = fresh first (part_of first.view 1)

  come_together : (it : Comes) → Composes g members start it.closes.entries seat 0 olds mids
  come_together it =
      let all = each_of_places g members 0 starts mids it.long (λ k d below. subst (λ (n : ℕ). ServesOne g members n (slice_index_or starts k d) (slice_index_or mids k d)) (omega arith) (it.each k d below)) in
      composed g members start it.closes.entries seat 0 olds mids (ap (λ (v : EngineView D). v.start) it.newly) refl refl (subst (λ (l : List (Served D S K C)). ServeEach g members 0 l mids) it.starts_are all)
      (All-weaker (λ (s : Served D S K C). StartsWith last.view.seen (seen_of s)) (λ (s : Served D S K C). StartsWith it.closes.entries (seen_of s))
      (λ s known. starts_trans it.closes.entries last.view.seen (seen_of s) it.closes.seen known) mids it.joins.seen)

  from_start : (it : Comes) → last.view.start ≡ Some start
  from_start it = it.joins.start ∙ ap (λ (s : Seat D). s.view.start) it.cut_is ∙ ap (λ (v : EngineView D). v.start) it.newly

  all_own : (it : Comes) → last.view.own ≡ flat_map own_of mids
  all_own it = it.joins.own ∙ ap (λ (s : Seat D). s.view.own ++ flat_map own_of mids) it.cut_is ∙ ap (λ (v : EngineView D). v.own ++ flat_map own_of mids) it.newly

  all_loans : (it : Comes) → last.view.loans ≡ flat_map loans_of mids
  all_loans it = it.joins.loans ∙ ap (λ (s : Seat D). s.view.loans ++ flat_map loans_of mids) it.cut_is ∙ ap (λ (v : EngineView D). v.loans ++ flat_map loans_of mids) it.newly

  -- the engine told exactly the faults that its clients were told
  faults_told : (it : Comes) → faults_lent (flat_map loans_of mids) ≡ left.faults
  faults_told it = sym (ap faults_lent (all_loans it)) ∙ faults_are last.view.loans left.shard.views left.faults (refusals_in left.found.items) it.closes.loans

  comes_to : (it : Comes) → ComesTo g start left.faults (tried_in (refusals_in left.found.items)) it.closes.entries left.shard
  comes_to it = subst (λ (s : Option (Shard D)). ComesFrom g s left.faults (tried_in (refusals_in left.found.items)) it.closes.entries left.shard) (from_start it) it.closes.stands_for.0

  -- no client was told of more series than the engine holds
  few_found : (it : Comes) → most_found (flat_map loans_of mids) ≤ length left.shard.logs.series.keys
  few_found it = subst (λ (l : List Lent). most_found l ≤ length left.shard.logs.series.keys) (all_loans it)
      (found_few left.shard.views left.faults (refusals_in left.found.items) left.shard.logs.series.keys last.view.loans it.closes.stands_for.1
      (record { most = λ weight. let same = it.closes.loans.same weight in omega (arith, same) }))

  ran_from : (it : Comes) → RanFrom g (Some start) (tried_in (refusals_in left.found.items)) it.closes.entries left.shard
  ran_from it = subst (λ (s : Option (Shard D)). RanFrom g s (tried_in (refusals_in left.found.items)) it.closes.entries left.shard) (from_start it) it.closes.stands_for.2

  -- what the engine tried, a client asked for and was refused
  abbrev IsAsked : (it : Comes) (together : Composes g members start it.closes.entries seat 0 olds mids) → Attempt → Type 0
  IsAsked it together attempt = IsTriedIn true (HasCause true (Some (limits_of (state_of start) start.logs.series.keys start)) (length left.shard.logs.series.keys) (state_of start)) (state_of start)
      (entries_in it.closes.entries) 0 (map (λ (p : Part). p.transcript) together.parts) (map (λ (p : Part). p.dialogue) together.parts)
      (all_told (whole_with g members start it.closes.entries seat (length left.shard.logs.series.keys)) 0 together.parts (together.are_parts (length left.shard.logs.series.keys) (few_found it))) attempt

  tried_for : (it : Comes) (together : Composes g members start it.closes.entries seat 0 olds mids) → AllByRecursion (IsAsked it together) (tried_in (refusals_in left.found.items))
  tried_for it together = each_in (IsAsked it together) (tried_in (refusals_in left.found.items)) (λ attempt at.
      together.asked (length left.shard.logs.series.keys) (few_found it) attempt (subst (λ (l : List Lent). Contains (tried_lent l) attempt) (all_loans it)
      (tried_told left.shard.views left.faults (refusals_in left.found.items) last.view.loans it.closes.loans attempt at)))

  numbers : (it : Comes) → SameItems last.view.own (numbers_after (state_of start).number (length it.closes.entries))
  numbers it = subst (λ (s : Option (Shard D)). SameItems last.view.own (numbers_after (number_at s) (length it.closes.entries))) (from_start it) it.closes.own

  are_served : (it : Comes) (together : Composes g members start it.closes.entries seat 0 olds mids)
      → AreServed together.sessions (state_of start) (limits_of (state_of start) start.logs.series.keys start) (length left.shard.logs.series.keys) (entries_in it.closes.entries) (tried_in (refusals_in left.found.items)) (g.health start.logs.disk) (g.health left.shard.logs.disk)
  are_served it together =
      let to = comes_to it in
      let told = faults_told it in
      record {
        transcripts = map (λ (p : Part). p.transcript) together.parts;
        are = together.transcripts;
        explained = explained g members start it.closes.entries seat (length left.shard.logs.series.keys) olds mids last.view.own together (few_found it) (all_own it) (numbers it);
        ages = to.health.ages;
        faults = capped (g.health start.logs.disk).faults (faults_in (flat_map all_answers (map (λ (p : Part). p.dialogue) together.parts))) left.faults (g.health left.shard.logs.disk).faults last_count
            (subst (λ (n : ℕ). min (faults_in (flat_map all_answers (map (λ (p : Part). p.dialogue) together.parts))) last_count ≤ n) told together.faults) to.health.counted;
        quiet = λ none. to.health.quiet (sym told ∙ together.quiet none);
        asked = tried_for it together;
      }

  pub served_together : Comes → ServesTogether g members start left.shard olds news
  served_together it =
      let together = come_together it in
      let to = comes_to it in
      record {
        finished = together.finished;
        left_are = it.news_are ∙ together.left_are;
        sessions = together.sessions;
        are = together.are;
        history = entries_in it.closes.entries;
        tried = tried_in (refusals_in left.found.items);
        holds = to.series;
        served = are_served it together;
        state = to.state;
        ran = λ told since run. let ran = ran_from it told since run in record { made = made_by it.closes.entries; are = refl; refused = ran.refused; were_tried = ran.were_tried; doubt = ran.doubt; runs = ran.runs };
        ready = to.ready;
        unlent = none_out last.view.loans left.shard.views left.faults (refusals_in left.found.items) it.closes.loans (ap views_lent (all_loans it) ∙ together.views);
        same = to.handed_out;
      }
