-- One history explains what the clients of several passes were told.
use Rattle.std.proofs.Common.{◌≡◌, ◌≤◌, ◌+◌, ℕ, List, [], ◌∷◌, ◌++◌, length, append_assoc, map, max, min, All, Option, Some, None, true, reverse, refl, sym, ap, ◌∙◌, subst, arith, Contains, ◌⊎◌, inl, inr, ⊎_elim}
use Rattle.std.specs.List.{flat_map}
use Rattle.std.specs.Option.{option_map_or}
use Rattle.std.proofs.lemmas.List.Elements.{All-head, All-tail, Contains-append_cases}
use Rattle.shard_disk.specs.Health.{Health, last_count}
use Rattle.shard_disk.specs.declared.disk.Disk.{Ghosts}
use Rattle.point_model.specs.declared.entry.Entry.{Entry}
use Rattle.point_model.specs.Histories.{State}
use Rattle.store_trait.specs.Told.{IsLater}
use Rattle.session_io.specs.declared.client.Client.{Client}
use Rattle.session_io.specs.declared.report.Report.{Report}
use Rattle.session_model.specs.Machine.{Answer}
use Rattle.session_model.specs.Explained.{ExplainedBut, IsTriedIn, all_answers, own_numbers, numbers_from}
use Rattle.session_loop.specs.Composed.{AreParts, IsPart, Part, Whole}
use Rattle.session_loop.specs.Sessions.{faults_in}
use Rattle.session_loop.specs.Steps.{HasCause}
use Rattle.session_loop.proofs.ComposedLemmas.{all_told, tried_first}
use Rattle.history_turn.specs.Histories.{StartsWith, numbers_after}
use Rattle.history_turn.specs.Owned.{weigh, SameItems}
use Rattle.history_turn.proofs.OwnedLemmas.{weigh-append}
use Rattle.shard_calls.specs.Told.{limits_of}
use Rattle.shard_steps.specs.Shards.{state_of}
use Rattle.shard_steps.specs.declared.shard.Shard.{Shard}
use Rattle.shard_state.specs.History.{Attempt}
use Rattle.shard_calls.specs.Attempts.{entry_tried}
use Rattle.shard_shared.specs.Entries.{entries_in, faults_lent, most_found, tried_lent, views_lent}
use Rattle.shard_shared.specs.Told.{limits_at, state_at}
use Rattle.shard_shared.specs.declared.engine.Entered.{Entered}
use Rattle.shard_shared.specs.declared.engine.Lent.{Lent}
use Rattle.shard_shared.specs.declared.engine.Lent.TheVariants.{View, Fault, Found}
use Rattle.shard_shared.proofs.EntriesLemmas.{entries_in-append}
use Rattle.engine_session.specs.Clients.{AreSessions, Finished}
use Rattle.engine_session.specs.Devices.{Devices, told_by}
use Rattle.engine_session.specs.Serving.{AreTranscripts, ClientSession}
use Rattle.engine_clients.specs.Seats.{Seat, Served, ServesOne, loans_of, own_of, seated_with, seen_of, stored_by, unseated}
use Rattle.engine_clients.specs.Served.{client_of, left_by}
use Rattle.engine_clients.proofs.BagLemmas.{permuted, weigh-numbers_from, weigh-reverse}
use Rattle.engine_clients.proofs.EachLemmas.{ServeEach}

-- ---- loans

pub faults-append : (xs ys : List Lent) → faults_lent (xs ++ ys) ≡ faults_lent xs + faults_lent ys
faults-append [] ys = omega arith
faults-append (View ∷ xs) ys = faults-append xs ys
faults-append (Fault ∷ xs) ys = let more = faults-append xs ys in omega (arith, more)
faults-append (Found count ∷ xs) ys = faults-append xs ys

pub found-append : (xs ys : List Lent) → most_found (xs ++ ys) ≡ max (most_found xs) (most_found ys)
found-append [] ys = omega arith
found-append (View ∷ xs) ys = found-append xs ys
found-append (Fault ∷ xs) ys = found-append xs ys
found-append (Found count ∷ xs) ys = let more = found-append xs ys in omega (arith, more)

pub tried-append : (xs ys : List Lent) → tried_lent (xs ++ ys) ≡ tried_lent xs ++ tried_lent ys
tried-append [] ys = refl
tried-append (View ∷ xs) ys = tried-append xs ys
tried-append (Fault ∷ xs) ys = tried-append xs ys
tried-append (Found refusal ∷ xs) ys = ap (λ (l : List Attempt). entry_tried refusal.client refusal.number refusal.tried ++ l) (tried-append xs ys)
    ∙ sym (append_assoc (entry_tried refusal.client refusal.number refusal.tried) (tried_lent xs) (tried_lent ys))

pub views-append : (xs ys : List Lent) → views_lent (xs ++ ys) ≡ views_lent xs ++ views_lent ys
views-append [] ys = refl
views-append (View ∷ xs) ys = ap (λ (l : List ℕ). 0 ∷ l) (views-append xs ys)
views-append (Fault ∷ xs) ys = views-append xs ys
views-append (Found count ∷ xs) ys = views-append xs ys

faults_in-append : (xs ys : List Answer) → faults_in (xs ++ ys) ≡ faults_in xs + faults_in ys
faults_in-append [] ys = omega arith
faults_in-append (x ∷ xs) ys = let more = faults_in-append xs ys in omega (arith, more)

capped_sum : (a b x y last : ℕ) → min a last ≤ x → min b last ≤ y → min (a + b) last ≤ x + y
capped_sum a b x y last first second = omega (arith, first, second)

-- what was told behind none is what was told
from_none : (before told count last : ℕ) → before ≡ 0 → min (before + told) last ≤ count → min told last ≤ count
from_none before told count last none few = omega (arith, none, few)

none_both : (a b : ℕ) → a ≡ 0 → b ≡ 0 → a + b ≡ 0
none_both a b first second = omega (arith, first, second)

none_first : (a b : ℕ) → a + b ≡ 0 → a ≡ 0
none_first a b none = omega (arith, none)

none_second : (a b : ℕ) → a + b ≡ 0 → b ≡ 0
none_second a b none = omega (arith, none)

some_is : {X : Type 0} (x y : X) → Some x ≡ Some y → x ≡ y
some_is x y e = cc

one_more : {X : Type 0} (x y : X) (xs ys : List X) → x ≡ y → xs ≡ ys → x ∷ xs ≡ y ∷ ys
one_more x y xs ys e es = cc

pub as_many : (entries : List Entered) → length (entries_in entries) ≡ length entries
as_many [] = refl
as_many (entry ∷ entries) = let more = as_many entries in omega (arith, more)

-- ---- one client

module _ {D R W S K C : Type 0} (g : Ghosts D R W) (members : Devices S K C) where
  abbrev part_of_one : (client : ℕ) (old new : Served D S K C) → ServesOne g members client old new → Part
  part_of_one client old new one = record {
    old = stored_by g client one.before.view;
    new = stored_by g client one.now.view;
    transcript = one.served.session.transcript;
    dialogue = one.served.session.dialogue;
  }

  abbrev session_of_one : (client : ℕ) (old new : Served D S K C) → ServesOne g members client old new → ClientSession
  session_of_one client old new one = record { before = told_by members old.client; now = told_by members new.client; report = one.report }

  abbrev left_with : Client S K C → Option Report → Served D S K C
  left_with client report = record { client = client; report = report; pass = None }

  later_in : (seen all : List Entered) → StartsWith all seen → IsLater (entries_in seen) (entries_in all)
  later_in seen all starts = record { since = entries_in starts.0; begins = ap entries_in starts.1 ∙ entries_in-append seen starts.0 }

  module _ (start : Shard D) (entries : List Entered) (seat : Seat D) where
    abbrev pub whole_with : ℕ → Whole
    whole_with held = record { start = state_of start; tells = true; limits = Some (limits_of (state_of start) start.logs.series.keys start); series = held; history = entries_in entries }

    is_part : (client held : ℕ) (old mid : Served D S K C) (one : ServesOne g members client (seated_with seat old) mid) → seat.view.start ≡ Some start → seat.view.own ≡ [] → StartsWith entries (seen_of mid)
        → most_found one.now.view.loans ≤ held → IsPart (whole_with held) client (part_of_one client (seated_with seat old) mid one)
    is_part client held old mid one from no_own seen few =
        let begun : one.before ≡ seat = sym (some_is seat one.before one.had) in
        let is = one.served.session.is in
        let starts : StartsWith entries one.now.view.seen =
        subst (λ (o : Option (Seat D)). StartsWith entries (option_map_or (λ (s : Seat D). s.view.seen) o [])) one.has seen in
        record {
          is = is;
          whose = refl;
          none_own = ap (λ (s : Seat D). reverse s.view.own) begun ∙ ap (λ (l : List ℕ). reverse l) no_own;
          start = sym (is.kept.start ∙ ap (λ (s : Seat D). state_at s.view.start) begun ∙ ap state_at from);
          tells = refl;
          limits = sym (is.kept.limits ∙ ap (λ (s : Seat D). limits_at s.view.start) begun ∙ ap limits_at from);
          series = few;
          knew = later_in one.now.view.seen entries starts;
        }

    -- what several sessions, each over a pass that begins so, tell of the whole history
    pub record Composes (client : ℕ) (olds mids : List (Served D S K C)) : Type 0 where
      pub parts : List Part
      pub sessions : List ClientSession
      pub finished : List (Finished S K C)
      pub left_are : map unseated mids ≡ map left_by finished
      pub are : AreSessions members (map client_of olds) finished sessions
      pub transcripts : AreTranscripts sessions (map (λ part. part.transcript) parts)
      -- of as many series as any of them found, or more
      pub are_parts : (held : ℕ) → most_found (flat_map loans_of mids) ≤ held → AreParts (whole_with held) client parts
      pub own : (f : ℕ → ℕ) → weigh f (flat_map own_numbers (map (λ part. part.dialogue) parts)) ≡ weigh f (flat_map own_of mids)
      pub views : views_lent (flat_map loans_of mids) ≡ []
      pub faults : min (faults_in (flat_map all_answers (map (λ part. part.dialogue) parts))) last_count ≤ faults_lent (flat_map loans_of mids)
      pub quiet : faults_in (flat_map all_answers (map (λ part. part.dialogue) parts)) ≡ 0 → faults_lent (flat_map loans_of mids) ≡ 0
      pub asked : (held : ℕ) (few : most_found (flat_map loans_of mids) ≤ held) (attempt : Attempt) → Contains (tried_lent (flat_map loans_of mids)) attempt
          → IsTriedIn true (HasCause true (Some (limits_of (state_of start) start.logs.series.keys start)) held (state_of start)) (state_of start) (entries_in entries) client
          (map (λ part. part.transcript) parts) (map (λ part. part.dialogue) parts) (all_told (whole_with held) client parts (are_parts held few)) attempt

    pub composed : (client : ℕ) (olds mids : List (Served D S K C)) → seat.view.start ≡ Some start → seat.view.own ≡ [] → seat.view.loans ≡ []
        → ServeEach g members client (map (seated_with seat) olds) mids → All (λ mid. StartsWith entries (seen_of mid)) mids → Composes client olds mids
    composed client [] [] from no_own no_loan each seen = record {
      parts = [];
      sessions = [];
      finished = [];
      left_are = refl;
      are = tt;
      transcripts = tt;
      are_parts = λ held few. tt;
      own = λ f. refl;
      views = refl;
      faults = omega arith;
      quiet = λ none. refl;
      asked = λ held few attempt at. absurd (let below = at.1 in omega (arith, below));
    }
    composed client (old ∷ olds) [] from no_own no_loan each seen = absurd each
    composed client [] (mid ∷ mids) from no_own no_loan each seen = absurd each
    composed client (old ∷ olds) (mid ∷ mids) from no_own no_loan each seen =
        let one = each.0 in
        let rest = composed (client + 1) olds mids from no_own no_loan each.1 (All-tail (λ (m : Served D S K C). StartsWith entries (seen_of m)) mid mids seen) in
        let first = All-head (λ (m : Served D S K C). StartsWith entries (seen_of m)) mid mids seen in
        let begun : one.before ≡ seat = sym (some_is seat one.before one.had) in
        let session = one.served.session in
        let is = session.is in
        let own_here : own_of mid ≡ one.now.view.own = ap (λ (o : Option (Seat D)). option_map_or (λ (s : Seat D). s.view.own) o []) one.has in
        let loans_here : loans_of mid ≡ one.now.view.loans = ap (λ (o : Option (Seat D)). option_map_or (λ (s : Seat D). s.view.loans) o []) one.has in
        let no_loans : one.before.view.loans ≡ [] = ap (λ (s : Seat D). s.view.loans) begun ∙ no_loan in
        let no_owns : one.before.view.own ≡ [] = ap (λ (s : Seat D). s.view.own) begun ∙ no_own in
        let own_told : own_numbers session.dialogue ≡ reverse one.now.view.own =
        sym (is.own ∙ ap (λ (l : List ℕ). reverse l ++ own_numbers session.dialogue) no_owns) in
        let loans_both = faults-append (loans_of mid) (flat_map loans_of mids) in
        let faults_both = faults_in-append (all_answers session.dialogue) (flat_map all_answers (map (λ (p : Part). p.dialogue) rest.parts)) in
        let found_both = found-append (loans_of mid) (flat_map loans_of mids) in
        let found_here : most_found (loans_of mid) ≡ most_found one.now.view.loans = ap most_found loans_here in
        let faults_here : faults_lent (loans_of mid) ≡ faults_lent one.now.view.loans = ap faults_lent loans_here in
        let no_faults : faults_lent one.before.view.loans ≡ 0 = ap faults_lent no_loans in
        let first_few : (held : ℕ) → most_found (loans_of mid ++ flat_map loans_of mids) ≤ held → most_found one.now.view.loans ≤ held =
        λ held few. omega (arith, few, found_both, found_here) in
        let rest_few : (held : ℕ) → most_found (loans_of mid ++ flat_map loans_of mids) ≤ held → most_found (flat_map loans_of mids) ≤ held =
        λ held few. omega (arith, few, found_both) in
        let all_parts : (held : ℕ) → most_found (loans_of mid ++ flat_map loans_of mids) ≤ held → AreParts (whole_with held) client (part_of_one client (seated_with seat old) mid one ∷ rest.parts) =
        λ held few. (is_part client held old mid one from no_own first (first_few held few), rest.are_parts held (rest_few held few)) in
        record {
          parts = part_of_one client (seated_with seat old) mid one ∷ rest.parts;
          sessions = session_of_one client (seated_with seat old) mid one ∷ rest.sessions;
          finished = record { client = mid.client; report = one.report } ∷ rest.finished;
          left_are = one_more (unseated mid) (left_by (record { client = mid.client; report = one.report })) (map unseated mids) (map left_by rest.finished)
              (ap (λ (r : Option Report). left_with mid.client r) one.reported) rest.left_are;
          are = (record { is = refl; ends = one.served.ends }, rest.are);
          transcripts = (
            record {
              read = session.read;
              left = session.left;
              ended = session.ended;
              all_read = session.all_read;
              moments = session.moments;
              written = session.written;
              reported = session.reported;
            },
            rest.transcripts,
          );
          are_parts = all_parts;
          own = λ f.
              let left = weigh-append f (own_numbers session.dialogue) (flat_map own_numbers (map (λ (p : Part). p.dialogue) rest.parts)) in
              let right = weigh-append f (own_of mid) (flat_map own_of mids) in
              let here = ap (weigh f) own_told ∙ weigh-reverse f one.now.view.own in
              let same = ap (weigh f) own_here in
              let more = rest.own f in
              omega (arith, left, right, here, same, more);
          views = views-append (loans_of mid) (flat_map loans_of mids)
              ∙ ap (λ (l : List ℕ). l ++ views_lent (flat_map loans_of mids)) (ap views_lent loans_here ∙ is.out ∙ ap views_lent no_loans) ∙ rest.views;
          faults = subst (λ (n : ℕ). n ≤ faults_lent (loans_of mid ++ flat_map loans_of mids)) (ap (λ (n : ℕ). min n last_count) (sym faults_both))
              (subst (λ (n : ℕ). min (faults_in (all_answers session.dialogue) + faults_in (flat_map all_answers (map (λ (p : Part). p.dialogue) rest.parts))) last_count ≤ n) (sym loans_both)
              (capped_sum (faults_in (all_answers session.dialogue)) (faults_in (flat_map all_answers (map (λ (p : Part). p.dialogue) rest.parts))) (faults_lent (loans_of mid)) (faults_lent (flat_map loans_of mids)) last_count
              (subst (λ (n : ℕ). min (faults_in (all_answers session.dialogue)) last_count ≤ n) (sym faults_here)
              (from_none (faults_lent one.before.view.loans) (faults_in (all_answers session.dialogue)) (faults_lent one.now.view.loans) last_count no_faults is.faults)) rest.faults));
          quiet = λ none.
              let none_of : faults_in (all_answers session.dialogue) + faults_in (flat_map all_answers (map (λ (p : Part). p.dialogue) rest.parts)) ≡ 0 = sym faults_both ∙ none in
              let here : faults_lent one.now.view.loans ≡ 0 =
              ap (λ (h : Health). h.faults) (is.quiet (none_first (faults_in (all_answers session.dialogue)) (faults_in (flat_map all_answers (map (λ (p : Part). p.dialogue) rest.parts))) none_of)) ∙ no_faults in
              let more : faults_lent (flat_map loans_of mids) ≡ 0 =
              rest.quiet (none_second (faults_in (all_answers session.dialogue)) (faults_in (flat_map all_answers (map (λ (p : Part). p.dialogue) rest.parts))) none_of) in
              loans_both ∙ none_both (faults_lent (loans_of mid)) (faults_lent (flat_map loans_of mids)) (faults_here ∙ here) more;
          asked = λ held few attempt at. ⊎_elim
              (λ mine. ⊎_elim
              (λ before. absurd (let below = (subst (λ (l : List Lent). Contains (tried_lent l) attempt) no_loans before).1 in omega (arith, below)))
              (λ told. told)
              (tried_first (whole_with held) client (part_of_one client (seated_with seat old) mid one) rest.parts (all_parts held few) attempt
              (subst (λ (l : List Lent). Contains (tried_lent l) attempt) loans_here mine)))
              (λ others. inr (rest.asked held (rest_few held few) attempt others))
              (Contains-append_cases (tried_lent (loans_of mid)) (tried_lent (flat_map loans_of mids)) attempt
              (subst (λ (l : List Attempt). Contains l attempt) (tried-append (loans_of mid) (flat_map loans_of mids)) at));
        }

    -- the numbers that the passes own together are those of the entries, each once: so is each number that was told
    abbrev pub explained : (held : ℕ) (olds mids : List (Served D S K C)) (own : List ℕ) (it : Composes 0 olds mids) → most_found (flat_map loans_of mids) ≤ held → own ≡ flat_map own_of mids
        → SameItems own (numbers_after (state_of start).number (length entries))
        → ExplainedBut true (HasCause true (Some (limits_of (state_of start) start.logs.series.keys start)) held (state_of start)) (state_of start) (entries_in entries) (map (λ part. part.transcript) it.parts)
    explained held olds mids own it few all same = record {
      dialogues = map (λ part. part.dialogue) it.parts;
      told = all_told (whole_with held) 0 it.parts (it.are_parts held few);
      each_once = permuted (flat_map own_numbers (map (λ part. part.dialogue) it.parts)) (numbers_from ((state_of start).number + 1) (entries_in entries)) (record {
        same = λ f. it.own f ∙ ap (weigh f) (sym all) ∙ same.same f ∙ ap (λ (n : ℕ). weigh f (numbers_after (state_of start).number n)) (sym (as_many entries))
            ∙ sym (weigh-numbers_from f (state_of start).number (entries_in entries));
      });
    }
