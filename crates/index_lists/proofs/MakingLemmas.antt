-- Steps at the first place and at the others.
use Rattle.std.proofs.Common.{◌≡◌, ℕ, zero, suc, ◌+◌, Bool, true, false, not, nat_eq, List, [], ◌∷◌, length, Some, slice_get, if◌then◌else◌, refl, sym, ap, ◌∙◌, subst, arith}
use Rattle.std.specs.List.{count_by}
use Rattle.std.proofs.lemmas.Bool.Decides.{nat_tests}
use Rattle.index_lists.specs.Listing.{Listed, Listing, Puts, Takes, is_listed}
use Rattle.index_lists.specs.Making.{Adds, IsThere, Removes, first_of}
use Rattle.index_lists.specs.Steps.{GivesRoom, HaveRoom, StepsAt, Times}
use Rattle.index_lists.proofs.HoldLemmas.{put_room}
use Rattle.index_lists.proofs.StepLemmas.{count_cons, steps_none}

times_add : (Step : Listed → Listed → Type 0) (m n k : ℕ) (old mid new : Listed) → k ≡ n + m → Times Step m old mid → Times Step n mid new → Times Step k old new
times_add Step m zero k old mid new e a b = let is : m ≡ k = omega (arith, e) in subst (λ (j : ℕ). Times Step j old new) is (subst (λ (l : Listed). Times Step m old l) (sym b) a)
times_add Step m (suc n) k old mid new e a b =
    let is : suc (n + m) ≡ k = omega (arith, e) in
    subst (λ (j : ℕ). Times Step j old new) is (b.0, times_add Step m n (n + m) old mid b.0 refl a b.1, b.2)

-- a place, and others behind it
pub steps_cons : (Step : Listed → Listed → Type 0) (first : ℕ) (others : List ℕ) (old mid new : List Listed) → StepsAt Step (first ∷ []) old mid → StepsAt Step others mid new → StepsAt Step (first ∷ others) old new
steps_cons Step first others old mid new a b = λ place listed at.
    let n = b place listed at in
    let m = a place n.0 n.1 in
    let one = count_cons (nat_eq place) first [] in
    let all = count_cons (nat_eq place) first others in
    let is : count_by (nat_eq place) (first ∷ others) ≡ count_by (nat_eq place) others + count_by (nat_eq place) (first ∷ []) = omega (arith, one, all) in
    (m.0, m.1, times_add Step (count_by (nat_eq place) (first ∷ [])) (count_by (nat_eq place) others) (count_by (nat_eq place) (first ∷ others)) m.0 n.0 listed is m.2 n.2)

pub first_has_room : (first : ℕ) (others places : List ℕ) (lists : List Listed) → places ≡ first ∷ others → HaveRoom places lists → HaveRoom (first ∷ []) lists
first_has_room first others places lists parts have = λ place listed at.
    let r = have place listed at in
    let one = count_cons (nat_eq place) first [] in
    let all = count_cons (nat_eq place) first others in
    let is = ap (λ (ps : List ℕ). count_by (nat_eq place) ps) parts in
    omega (arith, r, one, all, is)

pub others_have_room : (id first : ℕ) (others places : List ℕ) (old mid : List Listed) → places ≡ first ∷ others → HaveRoom places old → StepsAt (Puts id) (first ∷ []) old mid → HaveRoom others mid
others_have_room id first others places old mid parts have step = λ place listed at.
    let s = step place listed at in
    let r = have place s.0 s.1 in
    let one = count_cons (nat_eq place) first [] in
    let all = count_cons (nat_eq place) first others in
    let is = ap (λ (ps : List ℕ). count_by (nat_eq place) ps) parts in
    let used = put_room id (count_by (nat_eq place) (first ∷ [])) s.0 listed s.2 in
    omega (arith, r, one, all, is, used)

not_not : (b c : Bool) → c ≡ not b → not c ≡ b
not_not true c e = ap not e
not_not false c e = ap not e

heads_of : (x y : ℕ) (xs ys : List ℕ) → x ∷ xs ≡ y ∷ ys → x ≡ y
heads_of x y xs ys e = cc e

-- whether the first list has the id, as putting it there tells
pub there_put : (id first : ℕ) (others places : List ℕ) (lists : List Listed) (fresh : Bool) → places ≡ first ∷ others → ((listed : Listed) → slice_get lists first ≡ Some listed → fresh ≡ not (is_listed listed.ids id)) → IsThere id places lists (not fresh)
there_put id first others places lists fresh parts told = λ place more listed is at.
    let same = heads_of first place others more (sym parts ∙ is) in
    not_not (is_listed listed.ids id) fresh (told listed (ap (slice_get lists) same ∙ at))

-- as taking it out of there tells
pub there_taken : (id first : ℕ) (others places : List ℕ) (lists : List Listed) (was : Bool) → places ≡ first ∷ others → ((listed : Listed) → slice_get lists first ≡ Some listed → was ≡ is_listed listed.ids id) → IsThere id places lists was
there_taken id first others places lists was parts told = λ place more listed is at.
    let same = heads_of first place others more (sym parts ∙ is) in
    told listed (ap (slice_get lists) same ∙ at)

no_first : {place : ℕ} {others : List ℕ} → [] ≡ place ∷ others → ⊥
no_first e = cc e

pub there_nowhere : (id : ℕ) (places : List ℕ) (lists : List Listed) (there : Bool) → places ≡ [] → IsThere id places lists there
there_nowhere id places lists there none = λ place others listed is at. absurd (no_first (sym none ∙ is))

pub adds_none : (id : ℕ) (places : List ℕ) (old : Listing) → places ≡ [] → Adds id places old old
adds_none id places old none = record {
  there = true;
  was = there_nowhere id places old.lists true none;
  lists = subst (λ (ps : List ℕ). StepsAt (Puts id) ps old.lists old.lists) (sym none) (steps_none (Puts id) old.lists);
  terms = refl;
  counts = refl;
  pairs = refl;
  room = refl;
}

pub removes_none : (id : ℕ) (places : List ℕ) (old : Listing) → places ≡ [] → Removes id places old old
removes_none id places old none = record {
  mid = old.lists;
  given = old.lists;
  there = false;
  was = there_nowhere id places old.lists false none;
  field = subst (λ (ps : List ℕ). StepsAt (Takes id) (first_of ps) old.lists old.lists) (sym none) (steps_none (Takes id) old.lists);
  gives = subst (λ (ps : List ℕ). StepsAt GivesRoom ps old.lists old.lists) (sym none) (steps_none GivesRoom old.lists);
  others = steps_none (Takes id) old.lists;
  terms = refl;
  counts = refl;
  pairs = refl;
  room = refl;
}

-- whether none is left where one was taken off
pub last_one : (P : List ℕ → Type 0) (count left : ℕ) (places : List ℕ) → left + 1 ≡ count → left ≡ 0 → P places → P (if nat_eq count 1 then places else [])
last_one P count left places e none p = subst P (sym (ap (λ (b : Bool). if b then places else []) one)) p
  where
    one : nat_eq count 1 ≡ true
    one = grind (arith, nat_tests, e, none)

pub not_last : (P : List ℕ → Type 0) (count left : ℕ) (places : List ℕ) → left + 1 ≡ count → (left ≡ 0 → ⊥) → P [] → P (if nat_eq count 1 then places else [])
not_last P count left places e some p = subst P (sym (ap (λ (b : Bool). if b then places else []) other)) p
  where
    other : nat_eq count 1 ≡ false
    other = grind (arith, nat_tests, e, some)

pub no_places : (places : List ℕ) → length places ≡ 0 → places ≡ []
no_places [] none = refl
no_places (p ∷ places) none = absurd (omega (arith, none))
