-- A history goes on: an entry is added to it, or none.
use Rattle.std.proofs.Common.{◌≡◌, ⊎_elim, ℕ, ◌+◌, ◌≤◌, List, [], ◌∷◌, ◌++◌, length, take, drop, refl, sym, ap, ◌∙◌, subst, arith, append_assoc, length-append, length-take, take-append-drop, Option, None}
use Rattle.std.proofs.lemmas.List.{append-nil, map-append, take_all, take_at}
use Rattle.std.specs.Prelude.{Result}
use Rattle.std.specs.List.{AllByRecursion}
use Rattle.std.specs.Option.{option_to_list}
use Rattle.std.proofs.lemmas.List.Elements.{Contains-append_left, Contains-push}
use Rattle.shard_disk.specs.Crash.{Crashes}
use Rattle.shard_disk.specs.Directory.{Directory}
use Rattle.shard_disk.specs.declared.disk.Disk.{Ghosts}
use Rattle.shard_disk.specs.declared.trouble.Trouble.{Trouble}
use Rattle.shard_disk.proofs.Runs.{NoneBefore}
use Rattle.gate_log.proofs.Results.{on_ok_then}
use Rattle.point_model.specs.Histories.{State, state_after}
use Rattle.point_model.specs.Points.{Points}
use Rattle.point_model.specs.declared.entry.Entry.{Entry}
use Rattle.point_model.proofs.HistoryLemmas.{state_after-append, state_after-nil}
use Rattle.shard_state.specs.declared.logs.Logs.{Logs}
use Rattle.shard_state.specs.declared.prepare.Prepared.{Prepared}
use Rattle.shard_state.specs.Books.{Books, IsNext, state_in, with_entry, with_series}
use Rattle.shard_state.specs.Calls.{Enters, GoesOn}
use Rattle.shard_state.specs.Crashes.{LeavesOnly}
use Rattle.shard_state.specs.Engine.{Holds, IsLeftEntry, MayEnter, MayFollow, series_in}
use Rattle.shard_state.specs.History.{AreKept, Attempt, Made, Ran, StandsForPrefix, Survives, WasRefused, entries_of}
use Rattle.shard_state.specs.Meaning.{IsTaken, Stands, StandsWithAtMost}
use Rattle.shard_state.proofs.Entering.{on_err_then}
use Rattle.shard_state.proofs.Images.{image_now}
use Rattle.shard_state.proofs.Standing.{image_stands, state_entry}
use Rattle.shard_state.proofs.Steps.{may_be_next}

-- what was refused behind a number was so where more was refused
asked_more : (refused other : List Attempt) (number : ℕ) (next : List Entry) → AllByRecursion (WasRefused refused number) next → AllByRecursion (WasRefused (refused ++ other) number) next
asked_more refused other number [] asked = tt
asked_more refused other number (e ∷ next) asked = (Contains-append_left refused other (number, e) asked.0, asked_more refused other number next asked.1)

asked_left : (refused : List Attempt) (number : ℕ) (fault : Type 0) (doubt : Option Entry) (entry : Entry) (left : Option Entry) → WasRefused refused number entry → AllByRecursion (WasRefused refused number) (option_to_list doubt)
    → IsLeftEntry fault doubt entry left → AllByRecursion (WasRefused refused number) (option_to_list left)
asked_left refused number fault doubt entry left here doubts is =
    ⊎_elim (λ none. subst (λ (o : Option Entry). AllByRecursion (WasRefused refused number) (option_to_list o)) (sym none) tt)
    (λ other. ⊎_elim (λ was. subst (λ (o : Option Entry). AllByRecursion (WasRefused refused number) (option_to_list o)) (sym was) doubts)
    (λ own. subst (λ (o : Option Entry). AllByRecursion (WasRefused refused number) (option_to_list o)) (sym own.1) (here, tt)) other) is

-- what stands for a prefix of some entries does so of more, and where more were refused
longer : (start : State) (entries more : List Entry) (refused other : List Attempt) (least : ℕ) (c : Directory) → StandsForPrefix start entries refused least c → StandsForPrefix start (entries ++ more) (refused ++ other) least c
longer start entries more refused other least c p = record {
  count = p.count;
  at_least = p.at_least;
  at_most = omega (arith, p.at_most, length-append entries more);
  further = p.further;
  one = p.one;
  asked = asked_more refused other (start.number + p.count) p.further p.asked;
  stands = subst (λ (l : List Entry). Stands c (state_after (state_after start l) p.further)) (sym (take-front p.count entries more p.at_most)) p.stands;
}
  where
    take-front : (n : ℕ) (xs ys : List Entry) → n ≤ length xs → take n (xs ++ ys) ≡ take n xs
    take-front n xs ys within =
        ap (λ (l : List Entry). take n (l ++ ys)) (sym (take-append-drop n xs)) ∙ ap (λ (l : List Entry). take n l) (append_assoc (take n xs) (drop n xs) ys)
        ∙ take_at (take n xs) (drop n xs ++ ys) n (omega (arith, length-take n xs, within))

-- the whole, and nothing further
whole_alone : (start : State) (entries : List Entry) (refused : List Attempt) (least : ℕ) (c : Directory) → least ≤ length entries → Stands c (state_after start entries) → StandsForPrefix start entries refused least c
whole_alone start entries refused least c le stands = record {
  count = length entries;
  at_least = le;
  at_most = omega arith;
  further = [];
  one = omega arith;
  asked = tt;
  stands = subst (λ (l : List Entry). Stands c (state_after (state_after start l) [])) (sym (take_all (length entries) entries (omega arith))) (subst (λ (s : State). Stands c s) (state_after-nil (state_after start entries)) stands);
}

-- the whole, with at most one of these entries more, which were refused behind it
pub whole : (start : State) (entries : List Entry) (refused : List Attempt) (next : List Entry) (least : ℕ) (c : Directory) → least ≤ length entries → AllByRecursion (WasRefused refused (start.number + length entries)) next → StandsWithAtMost (state_after start entries) next c → StandsForPrefix start entries refused least c
whole start entries refused [] least c le asked stands = whole_alone start entries refused least c le stands
whole start entries refused (e ∷ next) least c le asked stands = ⊎_elim
    (λ more. record {
      count = length entries;
      at_least = le;
      at_most = omega arith;
      further = e ∷ [];
      one = omega arith;
      asked = (asked.0, tt);
      stands = subst (λ (l : List Entry). Stands c (state_after (state_after start l) (e ∷ []))) (sym (take_all (length entries) entries (omega arith))) more;
    })
    (λ rest. whole start entries refused next least c le asked.1 rest) stands

-- what some calls leave is such a prefix, of more entries and with more that were refused
module _ (start : State) (old new : Crashes) (entries more : List Entry) (refused other : List Attempt) (P : Directory → Type 0) (leaves : LeavesOnly P old new)
    (so : (least : ℕ) (c : Directory) → least ≤ length entries → P c → StandsForPrefix start (entries ++ more) (refused ++ other) least c) where
  since_then : (t least : ℕ) → t ≤ old.moment → least ≤ length entries → ((c : Directory) → old.since t c → StandsForPrefix start entries refused least c) → (c : Directory) → new.since t c → StandsForPrefix start (entries ++ more) (refused ++ other) least c
  since_then t least before le had c left = ⊎_elim (λ was. longer start entries more refused other least c (had c was)) (λ now. so least c le now) (leaves.before t c before left)

  kept_then : (count : ℕ) (made : List Made) → count + length made ≤ length entries → AreKept old start entries refused count made → AreKept new start (entries ++ more) (refused ++ other) count made
  kept_then count [] le kept = tt
  kept_then count (m ∷ made) le kept = (omega (arith, kept.0, leaves.later), since_then m.moment (count + 1) kept.0 (omega (arith, le)) kept.1, kept_then (count + 1) made (omega (arith, le)) kept.2)

kept_last : (crashes : Crashes) (start : State) (entries : List Entry) (refused : List Attempt) (count : ℕ) (made : List Made) (m : Made) → AreKept crashes start entries refused count made → m.moment ≤ crashes.moment
    → ((c : Directory) → crashes.since m.moment c → StandsForPrefix start entries refused (count + length made + 1) c) → AreKept crashes start entries refused count (made ++ m ∷ [])
kept_last crashes start entries refused count [] m kept le here = (le, (λ c left. subst (λ (n : ℕ). StandsForPrefix start entries refused n c) (omega arith) (here c left)), tt)
kept_last crashes start entries refused count (x ∷ made) m kept le here =
    (kept.0, kept.1, kept_last crashes start entries refused (count + 1) made m kept.2 le (λ c left. subst (λ (n : ℕ). StandsForPrefix start entries refused n c) (omega arith) (here c left)))

pub many : (made : List Made) → length (entries_of made) ≡ length made
many [] = refl
many (m ∷ made) = omega (arith, many made)

-- no entry was made yet by calls that leave the state
pub survives_none : (old new : Crashes) (state : State) → LeavesOnly (λ c. Stands c state) old new → Survives new state old.moment [] []
survives_none old new state leaves = record {
  later = leaves.later;
  each = λ c left. whole_alone state [] [] 0 c (omega arith) (subst (λ (s : State). Stands c s) (state_after-nil state) (leaves.each c left));
  kept = tt;
}

module _ (old new : Crashes) (start : State) (since : ℕ) (made : List Made) (refused : List Attempt) (next : List Entry) (leaves : LeavesOnly (StandsWithAtMost (state_after start (entries_of made)) next) old new) (survives : Survives old start since made refused) where
  -- calls that add no entry, and may leave one of those that were refused behind the last one
  pub survives_on : (other : List Attempt) → AllByRecursion (WasRefused (refused ++ other) (start.number + length (entries_of made))) next → Survives new start since made (refused ++ other)
  survives_on other asked =
      let none = append-nil (entries_of made) in
      let so : (least : ℕ) (c : Directory) → least ≤ length (entries_of made) → StandsWithAtMost (state_after start (entries_of made)) next c → StandsForPrefix start (entries_of made ++ []) (refused ++ other) least c =
      λ least c le stands. subst (λ (l : List Entry). StandsForPrefix start l (refused ++ other) least c) (sym none) (whole start (entries_of made) (refused ++ other) next least c le asked stands) in
      record {
        later = omega (arith, survives.later, leaves.later);
        each = λ c left. subst (λ (l : List Entry). StandsForPrefix start l (refused ++ other) 0 c) none (since_then start old new (entries_of made) [] refused other _ leaves so since 0 survives.later (omega arith) survives.each c left);
        kept = subst (λ (l : List Entry). AreKept new start l (refused ++ other) 0 made) none (kept_then start old new (entries_of made) [] refused other _ leaves so 0 made (omega (arith, many made)) survives.kept);
      }

-- calls that add an entry, which every crash now leaves
module _ (old new : Crashes) (start : State) (since : ℕ) (made : List Made) (refused : List Attempt) (entry : Entry) (doubts : List Entry) (asked : AllByRecursion (WasRefused refused (start.number + length (entries_of made))) doubts)
    (leaves : LeavesOnly (StandsWithAtMost (state_after start (entries_of made)) (entry ∷ doubts)) old new) (survives : Survives old start since made refused) where
  abbrev longer_by : List Entry
  longer_by = entries_of made ++ entry ∷ []

  size : length (entries_of made ++ entry ∷ []) ≡ length made + 1
  size = length-append (entries_of made) (entry ∷ []) ∙ ap (λ (n : ℕ). n + 1) (many made)

  with_it : (least : ℕ) (c : Directory) → least ≤ length (entries_of made) → StandsWithAtMost (state_after start (entries_of made)) (entry ∷ doubts) c → StandsForPrefix start (entries_of made ++ entry ∷ []) (refused ++ []) least c
  with_it least c le stands = ⊎_elim
      (λ here. whole_alone start (entries_of made ++ entry ∷ []) (refused ++ []) least c (omega (arith, le, size, many made)) (subst (λ (s : State). Stands c s) (sym (state_after-append start (entries_of made) (entry ∷ []))) here))
      (λ rest. longer start (entries_of made) (entry ∷ []) refused [] least c (whole start (entries_of made) refused doubts least c le asked rest))
      stands

  pub survives_entry : NoneBefore new → ((c : Directory) → new.now c → Stands c (state_after start (entries_of made ++ entry ∷ []))) → Survives new start since (made ++ record { entry = entry; moment = new.moment } ∷ []) refused
  survives_entry none now =
      let m : Made = record { entry = entry; moment = new.moment } in
      let all : entries_of (made ++ m ∷ []) ≡ entries_of made ++ entry ∷ [] = map-append (λ (x : Made). x.entry) made (m ∷ []) in
      let same = append-nil refused in
      record {
        later = omega (arith, survives.later, leaves.later);
        each = λ c left. subst (λ (l : List Entry). StandsForPrefix start l refused 0 c) (sym all) (subst (λ (l : List Attempt). StandsForPrefix start (entries_of made ++ entry ∷ []) l 0 c) same
            (since_then start old new (entries_of made) (entry ∷ []) refused [] _ leaves with_it since 0 survives.later (omega arith) survives.each c left));
        kept = subst (λ (l : List Entry). AreKept new start l refused 0 (made ++ m ∷ [])) (sym all)
            (kept_last new start (entries_of made ++ entry ∷ []) refused 0 made m
            (subst (λ (l : List Attempt). AreKept new start (entries_of made ++ entry ∷ []) l 0 made) same (kept_then start old new (entries_of made) (entry ∷ []) refused [] _ leaves with_it 0 made (omega (arith, many made)) survives.kept)) (omega arith)
            (λ c left. whole_alone start (entries_of made ++ entry ∷ []) refused (0 + length made + 1) c (omega (arith, size)) (now c (none c left))));
      }

module _ {D R W : Type 0} (g : Ghosts D R W) where
  -- a crash now
  pub left_now : (logs : Logs D) (books : Books) (doubt : Option Entry) → Holds g logs books doubt → (c : Directory) → (g.crashes logs.disk).now c → StandsWithAtMost (state_in books) (option_to_list doubt) c
  left_now logs books doubt holds c now =
      image_stands books (option_to_list doubt) holds.keeps.sound (may_be_next books doubt holds.keeps.latest.body holds.keeps.latest.doubts) c
      (image_now (g.files logs.disk) (g.crashes logs.disk) logs.manifest.log logs.series logs.wal books doubt holds.keeps c now)

  -- a history begins with an opening, with nothing in doubt
  pub ran_begins : (disk : D) (logs : Logs D) (books : Books) → LeavesOnly (λ c. Stands c (state_in books)) (g.crashes disk) (g.crashes logs.disk) → Holds g logs books None → Ran g logs (state_in books) (g.crashes disk).moment [] [] None
  ran_begins disk logs books leaves holds = record {
    books = books;
    holds = holds;
    is = state_after-nil (state_in books);
    asked = tt;
    survives = survives_none (g.crashes disk) (g.crashes logs.disk) (state_in books) leaves;
  }

  module _ (old new : Logs D) (start : State) (since : ℕ) (made : List Made) (refused : List Attempt) (was : Option Entry) (ran : Ran g old start since made refused was) (books : Books) where
    -- calls that add no entry, and may leave one of those that were refused behind the last one
    pub ran_on : (next : List Entry) (other : List Attempt) (doubt : Option Entry) → AllByRecursion (WasRefused (refused ++ other) (start.number + length (entries_of made))) next
        → AllByRecursion (WasRefused (refused ++ other) (start.number + length (entries_of made))) (option_to_list doubt) → LeavesOnly (StandsWithAtMost (state_in ran.books) next) (g.crashes old.disk) (g.crashes new.disk) → Holds g new books doubt → state_in books ≡ state_in ran.books → Ran g new start since made (refused ++ other) doubt
    ran_on next other doubt asked doubted left holds same = record {
      books = books;
      holds = holds;
      is = same ∙ ran.is;
      asked = doubted;
      survives = survives_on (g.crashes old.disk) (g.crashes new.disk) start since made refused next (subst (λ (s : State). LeavesOnly (StandsWithAtMost s next) (g.crashes old.disk) (g.crashes new.disk)) ran.is left) ran.survives other asked;
    }

    -- calls that refuse no entry
    pub ran_still : (doubt : Option Entry) → AllByRecursion (WasRefused refused (start.number + length (entries_of made))) (option_to_list doubt) → LeavesOnly (StandsWithAtMost (state_in ran.books) (option_to_list was)) (g.crashes old.disk) (g.crashes new.disk) → Holds g new books doubt
        → state_in books ≡ state_in ran.books → Ran g new start since made refused doubt
    ran_still doubt doubted left holds same =
        let none = append-nil refused in
        subst (λ (l : List Attempt). Ran g new start since made l doubt) none
        (ran_on (option_to_list was) [] doubt (asked_more refused [] (start.number + length (entries_of made)) (option_to_list was) ran.asked) (asked_more refused [] (start.number + length (entries_of made)) (option_to_list doubt) doubted) left holds same)

    -- calls that add one
    pub ran_entry : (entry : Entry) → NoneBefore (g.crashes new.disk) → LeavesOnly (StandsWithAtMost (state_in ran.books) (entry ∷ option_to_list was)) (g.crashes old.disk) (g.crashes new.disk) → Holds g new books None
        → state_in books ≡ state_after (state_in ran.books) (entry ∷ []) → Ran g new start since (made ++ record { entry = entry; moment = (g.crashes new.disk).moment } ∷ []) refused None
    ran_entry entry none left holds after =
        let m : Made = record { entry = entry; moment = (g.crashes new.disk).moment } in
        let state : state_in books ≡ state_after start (entries_of made ++ entry ∷ []) = after ∙ ap (λ (s : State). state_after s (entry ∷ [])) ran.is ∙ sym (state_after-append start (entries_of made) (entry ∷ [])) in
        record {
          books = books;
          holds = holds;
          is = state ∙ ap (λ (l : List Entry). state_after start l) (sym (map-append (λ (x : Made). x.entry) made (m ∷ [])));
          asked = tt;
          survives = survives_entry (g.crashes old.disk) (g.crashes new.disk) start since made refused entry (option_to_list was) ran.asked
              (subst (λ (s : State). LeavesOnly (StandsWithAtMost s (entry ∷ option_to_list was)) (g.crashes old.disk) (g.crashes new.disk)) ran.is left) ran.survives none
              (λ c now. subst (λ (s : State). Stands c s) state (left_now new books None holds c now));
        }

  -- the number behind all entries is the last one's
  pub number_of : (logs : Logs D) (start : State) (since : ℕ) (made : List Made) (refused : List Attempt) (doubt : Option Entry) → Ran g logs start since made refused doubt → logs.number ≡ start.number + length (entries_of made)
  number_of logs start since made refused doubt ran = ran.holds.number ∙ ap (λ (s : State). s.number) ran.is

  -- what was prepared may be the next entry of a history
  pub next_of : (logs : Logs D) (start : State) (since : ℕ) (made : List Made) (refused : List Attempt) (doubt : Option Entry) (prepared : Prepared) (entry : Entry) (ran : Ran g logs start since made refused doubt) → MayEnter logs prepared
      → IsTaken (logs.series.keys ++ series_in prepared.series) (state_after start (entries_of made)).points entry → IsNext (with_series ran.books (series_in prepared.series)) entry
  next_of logs start since made refused doubt prepared entry ran may taken = record {
    taken = subst (λ (s : List (List ℕ)). IsTaken (s ++ series_in prepared.series) (state_in ran.books).points entry) ran.holds.keeps.keys
        (subst (λ (p : Points). IsTaken (logs.series.keys ++ series_in prepared.series) p entry) (ap (λ (s : State). s.points) (sym ran.is)) taken);
    limit = omega (arith, may.limit, ran.holds.number);
  }

  -- the entry that was entered is the history's last, or a refusal left the history
  pub goes_on : (prepared : Prepared) (old new : Logs D) (result : Result (Unit {0}) Trouble) → MayEnter old prepared → NoneBefore (g.crashes new.disk) → Enters g prepared old new result → GoesOn g prepared old new result
  goes_on prepared old new result may none enters = record {
    ok = on_ok_then result
        (λ ok. λ told start since made refused doubt entry ran spells taken.
        let follow : MayFollow ran.books prepared entry = record { spells = spells; next = next_of old start since made refused doubt prepared entry ran may taken } in
        let more = with_series ran.books (series_in prepared.series) in
        ran_entry old new start since made refused doubt ran (with_entry more entry) entry none (enters.crash told ran.books doubt entry ran.holds follow) (ok told ran.books doubt entry ran.holds follow) (sym (state_entry more entry))) enters.ok;
    stays = on_err_then result
        (λ left_by. λ told start since made refused doubt entry ran spells taken.
        let follow : MayFollow ran.books prepared entry = record { spells = spells; next = next_of old start since made refused doubt prepared entry ran may taken } in
        let left = left_by told ran.books doubt entry ran.holds follow in
        let number = start.number + length (entries_of made) in
        let more = refused ++ (old.number, entry) ∷ [] in
        let here : WasRefused (refused ++ (old.number, entry) ∷ []) (start.number + length (entries_of made)) entry =
        subst (λ (n : ℕ). WasRefused (refused ++ (old.number, entry) ∷ []) n entry) (number_of old start since made refused doubt ran) (Contains-push refused (old.number, entry)) in
        let doubts = asked_more refused ((old.number, entry) ∷ []) number (option_to_list doubt) ran.asked in (
          left.left,
          left.is_left,
          ran_on old new start since made refused doubt ran (with_series ran.books left.held) (entry ∷ option_to_list doubt) ((old.number, entry) ∷ []) left.left (here, doubts)
              (asked_left more number _ doubt entry left.left here doubts left.is_left) (enters.crash told ran.books doubt entry ran.holds follow) left.holds refl,
        )) enters.refused;
  }
