-- Each step keeps the rule.
use Rattle.std.proofs.Common.{◌≡◌, ◌≢◌, ℕ, zero, suc, ◌+◌, ◌<◌, ◌≤◌, List, [], ◌∷◌, ◌++◌, length, get_or, set, Option, Some, None, Bool, true, false, true≢false, sym, refl, ap, ◌∙◌, subst, ⊎_elim, arith, length-append, flat_map}
use mathlib.Core.Logic.{dite}
use mathlib.Core.Option as core
use mathlib.Core.Option.{some, none, some-ne-none, some-injective}
use native.Mathlib.Decide.{ℕ_discrete}
use lib.ListN.{get_elem?}
use lib.Seq.{set-get_or}
use Rattle.atomic_table.specs.Table.{State, step, keeps, takes, gives, stepped, opening, Allows, Splits, Joins, Final, Seen}
use Rattle.atomic_table.proofs.Lists.{at_set, at_snoc, set_else, at_longer}
use Rattle.history_turn.specs.declared.view.PassView.{PassView}
use Rattle.history_turn.specs.Histories.{StartsWith, numbers_after}
use Rattle.history_turn.specs.Owned.{weigh, SameItems, IsAmong, SameChange}
use Rattle.history_turn.specs.Views.{all_parts, newcomer, spent, looking, holding, adding, resting, cut, part_of, joined}
use Rattle.history_turn.specs.Rule.{held, Knows, Kept}
use Rattle.history_turn.specs.Steps.{ViewAndSlots, looked, took, advanced, freed}
use Rattle.history_turn.specs.Calls.{Closed}
use Rattle.history_turn.proofs.HistoriesLemmas.{starts_self, starts_empty, starts_longer}
use Rattle.history_turn.proofs.OwnedLemmas.{weigh-append, weigh-flat_map, weigh-numbers_after}

module _ {A : Type 0} where
  weigh_set : (f : A → ℕ) (xs : List A) (i : ℕ) (v w : A) → get_elem? xs i ≡ some v → weigh f (set xs i w) + f v ≡ weigh f xs + f w
  weigh_set f [] i v w e = absurd (some-ne-none v (sym e))
  weigh_set f (x ∷ xs) zero v w e = let same = ap f (some-injective x v e) in omega arith
  weigh_set f (x ∷ xs) (suc i) v w e = let more = weigh_set f xs i v w e in omega arith

  weigh_le : (f : A → ℕ) (xs : List A) (i : ℕ) (v : A) → get_elem? xs i ≡ some v → f v ≤ weigh f xs
  weigh_le f [] i v e = absurd (some-ne-none v (sym e))
  weigh_le f (x ∷ xs) zero v e = let same = ap f (some-injective x v e) in omega arith
  weigh_le f (x ∷ xs) (suc i) v e = let more = weigh_le f xs i v e in omega arith

  weigh_none : (p f : A → ℕ) (xs : List A) → weigh p xs ≡ 0 → ((j : ℕ) (u : A) → get_elem? xs j ≡ some u → p u ≡ 0 → f u ≡ 0) → weigh f xs ≡ 0
  weigh_none p f [] no_p bare = refl
  weigh_none p f (x ∷ xs) no_p bare =
      let here = bare zero x refl (omega arith) in
      let more = weigh_none p f xs (omega arith) (λ j u e. bare (suc j) u e) in
      omega arith

  -- where one item has all of p, it has all of f
  weigh_one : (p f : A → ℕ) (xs : List A) (i : ℕ) (v : A) → get_elem? xs i ≡ some v → weigh p xs ≡ p v → ((j : ℕ) (u : A) → get_elem? xs j ≡ some u → p u ≡ 0 → f u ≡ 0) → weigh f xs ≡ f v
  weigh_one p f [] i v e all bare = absurd (some-ne-none v (sym e))
  weigh_one p f (x ∷ xs) zero v e all bare =
      let same_p = ap p (some-injective x v e) in
      let same_f = ap f (some-injective x v e) in
      let more = weigh_none p f xs (omega arith) (λ j u e. bare (suc j) u e) in
      omega arith
  weigh_one p f (x ∷ xs) (suc i) v e all bare =
      let most = weigh_le p xs i v e in
      let here = bare zero x refl (omega arith) in
      let more = weigh_one p f xs i v e (omega arith) (λ j u e. bare (suc j) u e) in
      omega arith

-- what all views own together weighs what each owns does, added up
spread : {B V : Type 0} (f : V → List B) (vs : List V) (ys : List B) → SameItems (flat_map f vs) ys → (h : B → ℕ) → weigh (λ v. weigh h (f v)) vs ≡ weigh h ys
spread f vs ys s h = sym (weigh-flat_map h f vs) ∙ s.same h

gather : {B V : Type 0} (f : V → List B) (vs : List V) (ys : List B) → ((h : B → ℕ) → weigh (λ v. weigh h (f v)) vs ≡ weigh h ys) → SameItems (flat_map f vs) ys
gather f vs ys s = record { same = λ h. weigh-flat_map h f vs ∙ s h }

off : false ≡ true → ⊥
off e = true≢false (sym e)

-- a fact of each view, after one has changed
each_set : {A : Type 0} (K : ℕ → A → Type 0) (vs : List A) (id : ℕ) (w : A) → K id w → ((j : ℕ) (u : A) → j ≢ id → get_elem? vs j ≡ some u → K j u)
    → (j : ℕ) (u : A) → get_elem? (set vs id w) j ≡ some u → K j u
each_set K vs id w mine others j u e =
    ⊎_elim
    (λ (t : (j ≡ id) × (w ≡ u)). subst (λ (y : ℕ × _). K y.0 y.1) (λ i. (sym t.0 i, t.1 i)) mine)
    (λ (t : (j ≢ id) × (get_elem? vs j ≡ some u)). others j u t.0 t.1)
    (at_set vs id j w u e)

same_total : {A : Type 0} (f : A → ℕ) (vs : List A) (id : ℕ) (v w : A) → get_elem? vs id ≡ some v → f w ≡ f v → weigh f (set vs id w) ≡ weigh f vs
same_total f vs id v w at same = let t = weigh_set f vs id v w at in omega arith

one_home : {A : Type 0} (hs : List A) (a : A) → length hs ≡ 1 → set hs 0 a ≡ a ∷ []
one_home [] a one = absurd (omega arith)
one_home (x ∷ []) a one = refl
one_home (x ∷ y ∷ hs) a one = absurd (omega arith)

module _ {X S E L : Type 0} (stands : X → S → List E → Type 0) (first first_faults : S → ℕ) (faults_of : X → ℕ) (loans_of : X → List L) where
  abbrev V : Type 0
  V = PassView S E L

  abbrev St : Type 0
  St = State (Option X) V

  abbrev Rule : St → Type 0
  Rule = Kept stands first first_faults faults_of loans_of

  abbrev K : S → List E → ℕ → ℕ → List L → ℕ → ℕ → V → Type 0
  K = Knows stands first first_faults faults_of loans_of

  abbrev Busy : ℕ → ℕ → List V → Type 0
  Busy turn holder vs = turn ≡ held → (u : V) × (get_elem? vs holder ≡ some u) × (u.has_turn ≡ true)

  busy_set : (turn holder : ℕ) (vs : List V) (id : ℕ) (v w : V) → get_elem? vs id ≡ some v → w.has_turn ≡ v.has_turn → Busy turn holder vs → Busy turn holder (set vs id w)
  busy_set turn holder vs id v w at same busy is = let b = busy is in dite (ℕ_discrete holder id)
      (λ here. (w, ap (get_elem? (set vs id w)) here ∙ there vs id v w at, same ∙ (ap (λ (z : V). z.has_turn) (some-injective v b.0 (sym at ∙ (ap (get_elem? vs) (sym here) ∙ b.1))) ∙ b.2)))
      (λ apart. (b.0, set_else vs id holder w apart ∙ b.1, b.2))
    where
      there : (vs : List V) (id : ℕ) (v w : V) → get_elem? vs id ≡ some v → get_elem? (set vs id w) id ≡ some w
      there [] id v w e = absurd (some-ne-none v (sym e))
      there (x ∷ xs) zero v w e = refl
      there (x ∷ xs) (suc id) v w e = there xs id v w e

  own_of : (s : St) (r : Rule s) (h : ℕ → ℕ) → weigh (λ (v : V). weigh h v.own) s.views ≡ weigh h (numbers_after (first r.start) (length r.entries))
  own_of s r h = spread (λ (v : V). v.own) s.views (numbers_after (first r.start) (length r.entries)) r.own h

  loans_of_all : (s : St) (r : Rule s) (h : L → ℕ) → weigh (λ (v : V). weigh h v.loans) s.views ≡ weigh h r.lent
  loans_of_all s r h = spread (λ (v : V). v.loans) s.views r.lent r.loans h

  -- a step that changes no word, and nothing that is owned
  unmoved : (s : St) (r : Rule s) (i id : ℕ) (cs : List (ℕ × Option X)) (v w : V) → get_elem? s.views id ≡ some v
      → w.parts ≡ v.parts → w.own ≡ v.own → w.faults ≡ v.faults → w.loans ≡ v.loans → w.has_turn ≡ v.has_turn → K r.start r.entries r.turn r.faults_found r.lent r.holder id w
      → Rule (stepped s i (get_or s.words i 0) id cs w keeps)
  unmoved s r i id cs v w at p o f l h mine = subst (λ (ws : List ℕ). Rule record { words = ws; homes = s.homes; views = set s.views id w }) (sym (set-get_or s.words i 0)) record {
    start = r.start;
    entries = r.entries;
    turn = r.turn;
    faults_found = r.faults_found;
    lent = r.lent;
    room = r.room;
    holder = r.holder;
    words = r.words;
    free = r.free;
    taken = busy_set r.turn r.holder s.views id v w at h r.taken;
    each = each_set (K r.start r.entries r.turn r.faults_found r.lent r.holder) s.views id w mine (λ j u _ e. r.each j u e);
    parts = same_total (λ (v : V). v.parts) s.views id v w at p ∙ r.parts;
    own = gather (λ (v : V). v.own) (set s.views id w) (numbers_after (first r.start) (length r.entries)) (λ g. same_total (λ (v : V). weigh g v.own) s.views id v w at (ap (weigh g) o) ∙ own_of s r g);
    faults = let t = same_total (λ (v : V). v.faults) s.views id v w at f in let b = r.faults in omega arith;
    loans = gather (λ (v : V). v.loans) (set s.views id w) (r.lent) (λ g. same_total (λ (v : V). weigh g v.loans) s.views id v w at (ap (weigh g) l) ∙ loans_of_all s r g);
  }

  turn_is : (s : St) (r : Rule s) → get_or s.words 0 0 ≡ r.turn
  turn_is s r = ap (λ (ws : List ℕ). get_or ws 0 0) r.words

  count_is : (s : St) (r : Rule s) → get_or s.words 1 0 ≡ first r.start + length r.entries
  count_is s r = ap (λ (ws : List ℕ). get_or ws 1 0) r.words

  -- what a pass owns is no more than there is
  parts_few : (s : St) (r : Rule s) (id : ℕ) (v : V) → get_elem? s.views id ≡ some v → v.parts ≤ all_parts
  parts_few s r id v at = let m = weigh_le (λ (v : V). v.parts) s.views id v at in let t = r.parts in omega arith

  faults_few : (s : St) (r : Rule s) (id : ℕ) (v : V) → get_elem? s.views id ≡ some v → v.faults + first_faults r.start ≤ r.faults_found
  faults_few s r id v at = let m = weigh_le (λ (v : V). v.faults) s.views id v at in let t = r.faults in omega arith

  own_few : (s : St) (r : Rule s) (id : ℕ) (v : V) → get_elem? s.views id ≡ some v → v.start ≡ r.start → IsAmong v.own (numbers_after (first v.start) (length r.entries))
  own_few s r id v at is = subst (λ (z : S). IsAmong v.own (numbers_after (first z) (length r.entries))) (sym is) record {
    most = λ h. let m = weigh_le (λ (v : V). weigh h v.own) s.views id v at in let t = own_of s r h in omega arith;
  }

  loans_few : (s : St) (r : Rule s) (id : ℕ) (v : V) (ls : List L) → get_elem? s.views id ≡ some v → r.lent ≡ ls → IsAmong v.loans ls
  loans_few s r id v ls at is = subst (IsAmong v.loans) is record {
    most = λ h. let m = weigh_le (λ (v : V). weigh h v.loans) s.views id v at in let t = loans_of_all s r h in omega arith;
  }

  pub looks : (slots id : ℕ) (me : ViewAndSlots X S E L) → 0 < me.0.parts → Allows Rule slots id me 1 (λ n. n) (looked first (step slots 1 0 0 none) me)
  looks slots id me some_part s r _ at _ =
      let v : V = me.0 in
      let w : V = looking v r.entries in
      let mine = r.each id v at in
      let is : v.start ≡ r.start = mine.one_start some_part in (
        w,
        keeps,
        tt,
        unmoved s r 1 id me.1 v w at refl refl refl refl refl record {
          one_start = mine.one_start;
          seen = starts_self r.entries;
          told = starts_empty r.entries;
          one_holder = λ h. let a = mine.one_holder h in (a.0, a.1, refl, a.3, a.4);
          bare = λ none. absurd (omega arith);
        },
        record {
          entries = r.entries;
          now = refl;
          number = count_is s r ∙ ap (λ (z : S). first z + length r.entries) (sym is);
          seen = mine.seen;
          told = mine.told;
          parts = parts_few s r id v at;
          faults = let f = faults_few s r id v at in let low = r.room in omega arith;
          with_turn = λ h. let a = mine.one_holder h in let e : v.faults_found ≡ r.faults_found = a.3 in let f = faults_few s r id v at in omega arith;
          own = own_few s r id v at is;
        },
      )

  pub takes_turn : (id : ℕ) (me : ViewAndSlots X S E L) → 0 < me.0.parts → Allows Rule 1 id me 0 (λ _. held) (took stands first first_faults faults_of loans_of (step 1 0 held 0 none) me)
  takes_turn id me some_part s r count at small =
      let v : V = me.0 in
      let mine = r.each id v at in
      let is : v.start ≡ r.start = mine.one_start some_part in
      let n : ℕ = get_or s.words 0 0 in
      let turn : n ≡ r.turn = turn_is s r in dite (ℕ_discrete r.turn held)
      (λ busy. (
        v,
        keeps,
        tt,
        subst (λ (n : ℕ). Rule (stepped s 0 n id me.1 v keeps)) (turn ∙ busy) (unmoved s r 0 id me.1 v v at refl refl refl refl refl mine),
        ((λ _. refl), (λ not. absurd (not (turn ∙ busy)))),
      ))
      (λ is_free.
      let f = r.free is_free in
      let x : X = f.value in
      let w : V = holding v r.entries (faults_of x) (loans_of x) in (
        w,
        takes 0 (Some x),
        ap (λ (hs : List (core.Option (Option X))). get_elem? hs 0) f.home,
        record {
          start = r.start;
          entries = r.entries;
          turn = held;
          faults_found = r.faults_found;
          lent = r.lent;
          room = r.room;
          holder = id;
          words = ap (λ (ws : List ℕ). set ws 0 held) r.words;
          free = λ not. absurd (not refl);
          taken = λ _. (w, here s.views id v w at, refl);
          each = each_set (K r.start r.entries held r.faults_found r.lent id) s.views id w
              record {
                one_start = mine.one_start;
                seen = starts_self r.entries;
                told = starts_empty r.entries;
                one_holder = λ _. (refl, refl, refl, f.faults ∙ sym f.faults_are, sym f.loans_are);
                bare = λ none. absurd (omega arith);
              }
              (λ j u apart e. let k = r.each j u e in record {
                one_start = k.one_start;
                seen = k.seen;
                told = k.told;
                one_holder = λ h. absurd (is_free ((k.one_holder h).0));
                bare = k.bare;
              });
          parts = same_total (λ (v : V). v.parts) s.views id v w at refl ∙ r.parts;
          own = gather (λ (v : V). v.own) (set s.views id w) (numbers_after (first r.start) (length r.entries)) (λ g. same_total (λ (v : V). weigh g v.own) s.views id v w at refl ∙ own_of s r g);
          faults = let t = same_total (λ (v : V). v.faults) s.views id v w at refl in let b = r.faults in omega arith;
          loans = gather (λ (v : V). v.loans) (set s.views id w) (r.lent) (λ g. same_total (λ (v : V). weigh g v.loans) s.views id v w at refl ∙ loans_of_all s r g);
        },
        (
          (λ e. absurd (is_free (sym turn ∙ e))),
          (λ _. (
            x,
            record {
              entries = r.entries;
              now = refl;
              stands_for = subst (λ (z : S). stands x z r.entries) (sym is) f.stands_for;
              seen = mine.seen;
              faults =
                  let few = faults_few s r id v at in
                  let e = ap first_faults is in
                  let a = f.faults in
                  let b = f.faults_are in
                  omega arith;
              own = own_few s r id v at is;
              loans = loans_few s r id v (loans_of x) at f.loans_are;
            },
          )),
        ),
      ))
    where
      here : (vs : List V) (id : ℕ) (v w : V) → get_elem? vs id ≡ some v → get_elem? (set vs id w) id ≡ some w
      here [] id v w e = absurd (some-ne-none v (sym e))
      here (x ∷ xs) zero v w e = refl
      here (x ∷ xs) (suc id) v w e = here xs id v w e

  pub advances : (slots id number : ℕ) (me : ViewAndSlots X S E L) (list : List E) → 0 < me.0.parts → me.0.has_turn ≡ true → number ≡ first me.0.start + length (me.0.seen ++ list)
      → Allows Rule slots id me 1 (λ _. number) (λ _. advanced first list (step slots 1 number 0 none) me number)
  advances slots id number me list some_part holds is_number s r _ at _ =
      let v : V = me.0 in
      let mine = r.each id v at in
      let is : v.start ≡ r.start = mine.one_start some_part in
      let a = mine.one_holder holds in
      let all : v.seen ≡ r.entries = a.2 in
      let entries : List E = v.seen ++ list in
      let w : V = adding (first v.start) v list in
      let fresh : List ℕ = numbers_after (first v.start + length v.seen) (length list) in
      let num : number ≡ first r.start + length entries = is_number ∙ ap (λ (z : S). first z + length entries) is in (
        w,
        keeps,
        tt,
        record {
          start = r.start;
          entries = entries;
          turn = r.turn;
          faults_found = r.faults_found;
          lent = r.lent;
          room = r.room;
          holder = r.holder;
          words = ap (λ (ws : List ℕ). set ws 1 number) r.words ∙ ap (λ (n : ℕ). r.turn ∷ n ∷ []) num;
          free = λ not. absurd (not a.0);
          taken = busy_set r.turn r.holder s.views id v w at refl r.taken;
          each = each_set (K r.start entries r.turn r.faults_found r.lent r.holder) s.views id w
              record {
                one_start = mine.one_start;
                seen = starts_self entries;
                told = grown r.entries v.seen list v.told all mine.told;
                one_holder = λ _. (a.0, a.1, refl, a.3, a.4);
                bare = λ none. absurd (omega arith);
              }
              (λ j u apart e. let k = r.each j u e in record {
                one_start = k.one_start;
                seen = grown r.entries v.seen list u.seen all k.seen;
                told = grown r.entries v.seen list u.told all k.told;
                one_holder = λ h. absurd (apart ((k.one_holder h).1 ∙ sym a.1));
                bare = k.bare;
              });
          parts = same_total (λ (v : V). v.parts) s.views id v w at refl ∙ r.parts;
          own = gather (λ (v : V). v.own) (set s.views id w) (numbers_after (first r.start) (length entries)) (λ h.
              let t = weigh_set (λ (v : V). weigh h v.own) s.views id v w at in
              let o = own_of s r h in
              let b = weigh-append h fresh v.own in
              let l = ap (weigh h) (ap (λ (z : S). numbers_after (first z + length v.seen) (length list)) is) in
              let m = weigh-numbers_after h (first r.start) (length v.seen) (length list) in
              let c = ap (λ k. weigh h (numbers_after (first r.start) k)) (length-append v.seen list) in
              let d = ap (λ (es : List E). weigh h (numbers_after (first r.start) (length es))) all in
              omega arith);
          faults = let t = same_total (λ (v : V). v.faults) s.views id v w at refl in let b = r.faults in omega arith;
          loans = gather (λ (v : V). v.loans) (set s.views id w) (r.lent) (λ g. same_total (λ (v : V). weigh g v.loans) s.views id v w at refl ∙ loans_of_all s r g);
        },
        refl,
      )
    where
      grown : (es seen list us : List E) → seen ≡ es → StartsWith es us → StartsWith (seen ++ list) us
      grown es seen list us same st = subst (λ (l : List E). StartsWith (l ++ list) us) (sym same) (starts_longer es us list st)

  pub frees : (id : ℕ) (v : V) (x : X) (n : ℕ) (ls : List L) → 0 < v.parts → v.has_turn ≡ true → stands x v.start v.seen → faults_of x ≡ n → v.faults_found ≤ n → n < held → SameChange v.loans_found (loans_of x) v.loans ls
      → Allows Rule 1 id (v, (0, Some x) ∷ []) 0 (λ _. n) (freed ls (step 1 0 n 0 none) (v, (0, Some x) ∷ []))
  frees id v x n ls some_part holds good is_n up low change s r count at _ =
      let mine = r.each id v at in
      let is : v.start ≡ r.start = mine.one_start some_part in
      let a = mine.one_holder holds in
      let all : v.seen ≡ r.entries = a.2 in
      let level : v.faults_found ≡ r.faults_found = a.3 in
      let lent : v.loans_found ≡ r.lent = a.4 in
      let w : V = resting v n ls in (
        w,
        gives,
        tt,
        record {
          start = r.start;
          entries = r.entries;
          turn = n;
          faults_found = n;
          lent = loans_of x;
          room = low;
          holder = id;
          words = ap (λ (ws : List ℕ). set ws 0 n) r.words;
          free = λ _. record {
            value = x;
            home = one_home s.homes (some (Some x)) count;
            faults = is_n;
            stands_for = subst (λ (z : S × List E). stands x z.0 z.1) (λ i. (is i, all i)) good;
            faults_are = refl;
            loans_are = refl;
          };
          taken = λ e. absurd (omega arith);
          each = each_set (K r.start r.entries n n (loans_of x) id) s.views id w
              record {
                one_start = mine.one_start;
                seen = mine.seen;
                told = mine.told;
                one_holder = λ h. absurd (off h);
                bare = λ none. absurd (omega arith);
              }
              (λ j u apart e. let k = r.each j u e in record {
                one_start = k.one_start;
                seen = k.seen;
                told = k.told;
                one_holder = λ h. absurd (apart ((k.one_holder h).1 ∙ sym a.1));
                bare = k.bare;
              });
          parts = same_total (λ (v : V). v.parts) s.views id v w at refl ∙ r.parts;
          own = gather (λ (v : V). v.own) (set s.views id w) (numbers_after (first r.start) (length r.entries)) (λ g. same_total (λ (v : V). weigh g v.own) s.views id v w at refl ∙ own_of s r g);
          faults =
              let t = weigh_set (λ (v : V). v.faults) s.views id v w at in
              let b = r.faults in
              omega arith;
          loans = gather (λ (v : V). v.loans) (set s.views id w) (loans_of x) (λ h.
              let t = weigh_set (λ (v : V). weigh h v.loans) s.views id v w at in
              let b = loans_of_all s r h in
              let c = change.same h in
              let d = ap (weigh h) lent in
              omega arith);
        },
        refl,
      )

  pub splits : (id : ℕ) (v : V) (n : ℕ) → 0 < n → n < v.parts → v.has_turn ≡ false → Splits Rule id v (cut v n) (part_of v n)
  splits id v n some_part fewer rests s r at =
      let mine = r.each id v at in
      let left : V = cut v n in
      let right : V = part_of v n in
      let vs : List V = set s.views id left in
      let k = K r.start r.entries r.turn r.faults_found r.lent r.holder in record {
        start = r.start;
        entries = r.entries;
        turn = r.turn;
        faults_found = r.faults_found;
        lent = r.lent;
        room = r.room;
        holder = r.holder;
        words = r.words;
        free = r.free;
        taken = λ e. let b = busy_set r.turn r.holder s.views id v left at refl r.taken e in (b.0, at_longer vs (right ∷ []) r.holder b.0 b.1, b.2);
        each = λ j u e. ⊎_elim
            (λ (was : get_elem? vs j ≡ some u). each_set k s.views id left
            record {
              one_start = λ _. mine.one_start (omega arith);
              seen = mine.seen;
              told = mine.told;
              one_holder = mine.one_holder;
              bare = λ none. absurd (omega arith);
            }
            (λ j u _ e. r.each j u e) j u was)
            (λ (is : right ≡ u). subst (k j) is record {
              one_start = λ _. mine.one_start (omega arith);
              seen = mine.seen;
              told = mine.told;
              one_holder = λ h. absurd (off h);
              bare = λ none. absurd (omega arith);
            })
            (at_snoc vs right u j e);
        parts = let t = weigh_set (λ (v : V). v.parts) s.views id v left at in let a = weigh-append (λ (v : V). v.parts) vs (right ∷ []) in let b = r.parts in omega arith;
        own = gather (λ (v : V). v.own) (vs ++ right ∷ []) (numbers_after (first r.start) (length r.entries)) (λ h. let t = same_total (λ (v : V). weigh h v.own) s.views id v left at refl in let a = weigh-append (λ (v : V). weigh h v.own) vs (right ∷ []) in let b = own_of s r h in omega arith);
        faults = let t = same_total (λ (v : V). v.faults) s.views id v left at refl in let a = weigh-append (λ (v : V). v.faults) vs (right ∷ []) in let b = r.faults in omega arith;
        loans = gather (λ (v : V). v.loans) (vs ++ right ∷ []) (r.lent) (λ h. let t = same_total (λ (v : V). weigh h v.loans) s.views id v left at refl in let a = weigh-append (λ (v : V). weigh h v.loans) vs (right ∷ []) in let b = loans_of_all s r h in omega arith);
      }

  pub joins : (nowhere : S) (id : ℕ) (v : V) (other : ℕ) (u : V) → 0 < v.parts → u.has_turn ≡ false → Joins Rule id v other u (joined v u) (spent nowhere)
  joins nowhere id v other u some_part rests s r at apart there =
      let mine = r.each id v at in
      let both : V = joined v u in
      let none : V = spent nowhere in
      let vs : List V = set s.views id both in
      let was : get_elem? s.views other ≡ some u = sym (set_else s.views id other both apart) ∙ there in
      let theirs = r.each other u was in
      let k = K r.start r.entries r.turn r.faults_found r.lent r.holder in record {
        start = r.start;
        entries = r.entries;
        turn = r.turn;
        faults_found = r.faults_found;
        lent = r.lent;
        room = r.room;
        holder = r.holder;
        words = r.words;
        free = r.free;
        taken = busy_set r.turn r.holder vs other u none there (sym rests) (busy_set r.turn r.holder s.views id v both at refl r.taken);
        each = each_set k vs other none
            record {
              one_start = λ h. absurd (omega arith);
              seen = starts_empty r.entries;
              told = starts_empty r.entries;
              one_holder = λ h. absurd (off h);
              bare = λ _. record { own = refl; faults = refl; loans = refl; has_turn = refl };
            }
            (λ j w _ e. each_set k s.views id both
            record {
              one_start = λ _. mine.one_start some_part;
              seen = mine.seen;
              told = theirs.seen;
              one_holder = mine.one_holder;
              bare = λ no_part. absurd (omega arith);
            }
            (λ j u _ e. r.each j u e) j w e);
        parts = let t = weigh_set (λ (v : V). v.parts) s.views id v both at in let a = weigh_set (λ (v : V). v.parts) vs other u none there in let b = r.parts in omega arith;
        own = gather (λ (v : V). v.own) (set vs other none) (numbers_after (first r.start) (length r.entries)) (λ h. let t = weigh_set (λ (v : V). weigh h v.own) s.views id v both at in let a = weigh_set (λ (v : V). weigh h v.own) vs other u none there in let c = weigh-append h v.own u.own in let b = own_of s r h in omega arith);
        faults = let t = weigh_set (λ (v : V). v.faults) s.views id v both at in let a = weigh_set (λ (v : V). v.faults) vs other u none there in let b = r.faults in omega arith;
        loans = gather (λ (v : V). v.loans) (set vs other none) (r.lent) (λ h. let t = weigh_set (λ (v : V). weigh h v.loans) s.views id v both at in let a = weigh_set (λ (v : V). weigh h v.loans) vs other u none there in let c = weigh-append h v.loans u.loans in let b = loans_of_all s r h in omega arith);
      }

  pub opens : (x : X) (start : S) (n : ℕ) → stands x start [] → loans_of x ≡ [] → first_faults start ≡ faults_of x → faults_of x < held → n ≡ first start + 0
      → Rule (opening (faults_of x ∷ n ∷ []) (Some x ∷ []) (newcomer start))
  opens x start n good no_loan same low is_n = record {
    start = start;
    entries = [];
    turn = faults_of x;
    faults_found = faults_of x;
    lent = [];
    room = low;
    holder = 0;
    words = ap (λ (n : ℕ). faults_of x ∷ n ∷ []) is_n;
    free = λ _. record { value = x; home = refl; faults = refl; stands_for = good; faults_are = refl; loans_are = sym no_loan };
    taken = λ e. absurd (omega arith);
    each = one;
    parts = refl;
    own = record { same = λ h. refl };
    faults = omega arith;
    loans = record { same = λ h. refl };
  }
    where
      one : (j : ℕ) (v : V) → get_elem? (newcomer start ∷ []) j ≡ some v → K start [] (faults_of x) (faults_of x) [] 0 j v
      one zero v e = subst (K start [] (faults_of x) (faults_of x) [] 0 0) (some-injective _ _ e) record {
        one_start = λ _. refl;
        seen = ([], refl);
        told = ([], refl);
        one_holder = λ h. absurd (off h);
        bare = λ none. absurd (omega arith);
      }
      one (suc j) v e = absurd (some-ne-none v (sym e))

  abbrev flag : V → ℕ
  flag u = elim u.has_turn [ true ↦ 1 | false ↦ 0 ]

  flag_off : (u : V) → u.has_turn ≡ false → flag u ≡ 0
  flag_off u e = ap (λ (b : Bool). elim b as (λ _. ℕ) [ true ↦ 1 | false ↦ 0 ]) e

  flag_on : (u : V) → u.has_turn ≡ true → flag u ≡ 1
  flag_on u e = ap (λ (b : Bool). elim b as (λ _. ℕ) [ true ↦ 1 | false ↦ 0 ]) e

  -- a pass with all parts that has not the turn: the turn is free
  whole_free : (s : St) (r : Rule s) (id : ℕ) (v : V) → get_elem? s.views id ≡ some v → v.parts ≡ all_parts → v.has_turn ≡ false → r.turn ≢ held
  whole_free s r id v at all rests e =
      let b = r.taken e in
      let none = weigh_one (λ (v : V). v.parts) flag s.views id v at (r.parts ∙ sym all) (λ j u e p. flag_off u ((r.each j u e).bare p).has_turn) in
      let one = weigh_le flag s.views r.holder b.0 b.1 in
      let on = flag_on b.0 b.2 in
      let off = flag_off v rests in
      omega arith

  pub closes : (s : St) (r : Rule s) (id : ℕ) (v : V) → get_elem? s.views id ≡ some v → v.parts ≡ all_parts → v.has_turn ≡ false
      → (x : X) × (get_elem? s.homes 0 ≡ some (some (Some x))) × Closed stands first first_faults faults_of loans_of v x
  closes s r id v at all rests =
      let mine = r.each id v at in
      let f = r.free (whole_free s r id v at all rests) in
      let is : v.start ≡ r.start = mine.one_start (omega arith) in
      let whole = r.parts ∙ sym all in
      let total_own : (h : ℕ → ℕ) → weigh h v.own ≡ weigh h (numbers_after (first r.start) (length r.entries)) = λ h. sym (weigh_one (λ (v : V). v.parts) (λ (v : V). weigh h v.own) s.views id v at whole (λ j u e p. ap (weigh h) ((r.each j u e).bare p).own)) ∙ own_of s r h in
      let total_loans : (h : L → ℕ) → weigh h v.loans ≡ weigh h r.lent = λ h. sym (weigh_one (λ (v : V). v.parts) (λ (v : V). weigh h v.loans) s.views id v at whole (λ j u e p. ap (weigh h) ((r.each j u e).bare p).loans)) ∙ loans_of_all s r h in
      let total_faults = weigh_one (λ (v : V). v.parts) (λ (v : V). v.faults) s.views id v at whole (λ j u e p. ((r.each j u e).bare p).faults) in (
        f.value,
        ap (λ (hs : List (core.Option (Option X))). get_elem? hs 0) f.home,
        record {
          entries = r.entries;
          stands_for = subst (λ (z : S). stands f.value z r.entries) (sym is) f.stands_for;
          seen = mine.seen;
          own = subst (λ (z : S). SameItems v.own (numbers_after (first z) (length r.entries))) (sym is) record { same = total_own };
          faults = let t = r.faults in let l = f.faults_are in let m = f.faults in let e = ap first_faults is in omega arith;
          loans = subst (SameItems v.loans) f.loans_are record { same = total_loans };
        },
      )

  -- the value that was in the slot when the table was closed
  pub closed_value : (id : ℕ) (v : V) (ws : List ℕ) (slots : List (Option X)) (got : Option X) → Final (Seen Rule id v) ws slots → get_elem? slots 0 ≡ some got → v.parts ≡ all_parts → v.has_turn ≡ false
      → (x : X) × (got ≡ Some x) × Closed stands first first_faults faults_of loans_of v x
  closed_value id v ws slots got fin there all rests =
      let c = closes fin.0 fin.1.0 id v fin.1.1 all rests in
      (c.0, some-injective _ _ (sym there ∙ fin.4 0 (Some c.0) c.1), c.2)

  pub closed_at : (v : V) (x y : X) (got : Option X) → got ≡ Some x → got ≡ Some y → Closed stands first first_faults faults_of loans_of v x → Closed stands first first_faults faults_of loans_of v y
  closed_at v x y got e f c = let same : x ≡ y = ap (λ (o : Option X). elim o as (λ _. X) [ Some z ↦ z | None ↦ x ]) (sym e ∙ f) in subst (Closed stands first first_faults faults_of loans_of v) same c
