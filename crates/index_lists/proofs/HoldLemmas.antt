-- A change that is made keeps that the lists are those of the pairs.
use Rattle.std.proofs.Common.{◌≡◌, ℕ, zero, suc, ◌+◌, ◌-◌, ◌<◌, ◌≤◌, ◌&&◌, ◌||◌, Bool, true, false, not, nat_eq, List, [], ◌∷◌, length, get_or, set, Some, slice_get, refl, sym, ap, ◌∙◌, subst, ⊎_elim, arith}
use Rattle.std.specs.List.{AllByRecursion, count_by, list_any}
use Rattle.std.specs.List.Sorted.{IsStrictlySortedBy}
use Rattle.std.specs.Ordering.{nat_cmp}
use Rattle.std.specs.Str.{bytes_eq}
use Rattle.std.proofs.lemmas.Bool.{cases_Bool}
use Rattle.std.proofs.lemmas.List.{get_or-set_same, get_or-set_other}
use Rattle.index_lists.specs.declared.term.Term.{Term}
use Rattle.index_lists.specs.declared.term.Term.TheVariants.{Field}
use Rattle.index_lists.specs.Listing.{Holds, Listed, Listing, Puts, Takes, is_listed}
use Rattle.index_lists.specs.Making.{IsThere}
use Rattle.index_lists.specs.Pairs.{Agrees, IsAlone, Pair, is_in, is_same, without_pair}
use Rattle.index_lists.specs.Ready.{StandAt}
use Rattle.index_lists.specs.Steps.{GivesRoom, Times}
use Rattle.index_lists.specs.Terms.{measurement_of, series_terms, terms_of}
use Rattle.index_lists.proofs.PairLemmas.{all_filter, all_from, all_in, and_both, and_second, any_in, as_many, both_ways, filter_in, in_any, nat_same, none_counted, not_false, parted, parts_same, picked, picks, picks_it, same_nat, same_parts, same_text, same_truth, some_counted, text_same}
use Rattle.index_lists.proofs.StepLemmas.{bit, count_cons}

-- ---- several steps of one list

or_twice : (a b : Bool) → (a || (a || b)) ≡ (a || b)
or_twice true b = refl
or_twice false b = refl

and_twice : (a b : Bool) → ((a && b) && b) ≡ (a && b)
and_twice true true = refl
and_twice true false = refl
and_twice false b = refl

pub and_true : (b : Bool) → (b && true) ≡ b
and_true true = refl
and_true false = refl

pub and_false : (b : Bool) → (b && false) ≡ false
and_false true = refl
and_false false = refl

pub put_times : (id n : ℕ) (old new : Listed) → Times (Puts id) (suc n) old new → (other : ℕ) → is_listed new.ids other ≡ (nat_eq other id || is_listed old.ids other)
put_times id zero old new t other = t.2.has other ∙ ap (λ (l : Listed). nat_eq other id || is_listed l.ids other) t.1
put_times id (suc n) old new t other = t.2.has other ∙ ap (λ (b : Bool). nat_eq other id || b) (put_times id n old t.0 t.1 other) ∙ or_twice (nat_eq other id) (is_listed old.ids other)

pub put_sorted : (id n : ℕ) (old new : Listed) → Times (Puts id) n old new → IsStrictlySortedBy nat_cmp old.ids → IsStrictlySortedBy nat_cmp new.ids
put_sorted id zero old new t sorted = subst (λ (l : Listed). IsStrictlySortedBy nat_cmp l.ids) (sym t) sorted
put_sorted id (suc n) old new t sorted = t.2.ascending

pub put_room : (id n : ℕ) (old new : Listed) → Times (Puts id) n old new → new.room + n ≡ old.room
put_room id zero old new t = let e = ap (λ (l : Listed). l.room) t in omega (arith, e)
put_room id (suc n) old new t = let r = put_room id n old t.0 t.1 in let s = t.2.room in omega (arith, r, s)

pub take_times : (id n : ℕ) (old new : Listed) → Times (Takes id) (suc n) old new → (other : ℕ) → is_listed new.ids other ≡ (is_listed old.ids other && not (nat_eq other id))
take_times id zero old new t other = t.2.has other ∙ ap (λ (l : Listed). is_listed l.ids other && not (nat_eq other id)) t.1
take_times id (suc n) old new t other = t.2.has other ∙ ap (λ (b : Bool). b && not (nat_eq other id)) (take_times id n old t.0 t.1 other) ∙ and_twice (is_listed old.ids other) (not (nat_eq other id))

pub take_sorted : (id n : ℕ) (old new : Listed) → Times (Takes id) n old new → IsStrictlySortedBy nat_cmp old.ids → IsStrictlySortedBy nat_cmp new.ids
take_sorted id zero old new t sorted = subst (λ (l : Listed). IsStrictlySortedBy nat_cmp l.ids) (sym t) sorted
take_sorted id (suc n) old new t sorted = t.2.ascending

pub take_room : (id n : ℕ) (old new : Listed) → Times (Takes id) n old new → new.room ≡ old.room
take_room id zero old new t = ap (λ (l : Listed). l.room) t
take_room id (suc n) old new t = t.2.room ∙ take_room id n old t.0 t.1

pub give_ids : (n : ℕ) (old new : Listed) → Times GivesRoom n old new → new.ids ≡ old.ids
give_ids zero old new t = ap (λ (l : Listed). l.ids) t
give_ids (suc n) old new t = t.2.0 ∙ give_ids n old t.0 t.1

pub give_room : (n : ℕ) (old new : Listed) → Times GivesRoom n old new → old.room ≤ new.room + n
give_room zero old new t = let e = ap (λ (l : Listed). l.room) t in omega (arith, e)
give_room (suc n) old new t = let r = give_room n old t.0 t.1 in let s = t.2.1 in omega (arith, r, s)

-- ---- the list of the field

some_there : {X : Type 0} (xs : List X) (place : ℕ) → place < length xs → (x : X) × (slice_get xs place ≡ Some x)
some_there [] place less = absurd (omega (arith, less))
some_there (x ∷ xs) zero less = (x, refl)
some_there (x ∷ xs) (suc place) less = some_there xs place (omega (arith, less))

there_below : {X : Type 0} (xs : List X) (place : ℕ) (x : X) → slice_get xs place ≡ Some x → place < length xs
there_below [] place x e = absurd cc
there_below (y ∷ xs) zero x e = omega arith
there_below (y ∷ xs) (suc place) x e = let r = there_below xs place x e in omega (arith, r)

-- the first place is that of the field's term
pub record FirstPlace (terms : List Term) (s f : List ℕ) (places : List ℕ) : Type 0 where
  pub place : ℕ
  pub others : List ℕ
  pub parts : places ≡ place ∷ others
  pub field : slice_get terms place ≡ Some (Field (measurement_of s) f)
  pub behind : StandAt terms (series_terms s) others

pub first_place : (terms : List Term) (s f : List ℕ) (places : List ℕ) → StandAt terms (terms_of s f) places → FirstPlace terms s f places
first_place terms s f [] at = absurd cc
first_place terms s f (place ∷ others) at = record {
  place = place;
  others = others;
  parts = refl;
  field = cc at;
  behind = cc at;
}

module _ (pairs : List Pair) (pair : Pair) (agree : Agrees pairs pair) where
  -- the pairs of the field's term with this id are the pair itself
  field_in : list_any (picks pair.id (Field (measurement_of pair.series) pair.field)) pairs ≡ is_in pairs pair
  field_in = same_truth (list_any (picks pair.id (Field (measurement_of pair.series) pair.field)) pairs) (is_in pairs pair)
      (λ a.
      let o = any_in (picks pair.id (Field (measurement_of pair.series) pair.field)) pairs a in
      let p = picked pair.id (Field (measurement_of pair.series) pair.field) o.0 o.2 in
      let field = same_text o.0.field pair.field (and_second (bytes_eq (measurement_of o.0.series) (measurement_of pair.series)) (bytes_eq o.0.field pair.field) p.1) in
      in_any (is_same pair) pairs o.0 o.1 (parts_same pair o.0 p.0 (sym field)))
      (λ a.
      let o = any_in (is_same pair) pairs a in
      let same = same_parts pair o.0 o.2 in
      let series = all_in (λ (x : Pair). x.id ≡ pair.id → x.series ≡ pair.series) pairs o.0 agree o.1 (sym same.0) in
      let m : measurement_of o.0.series ≡ measurement_of pair.series = ap measurement_of series in
      in_any (picks pair.id (Field (measurement_of pair.series) pair.field)) pairs o.0 o.1
      (picks_it pair.id (Field (measurement_of pair.series) pair.field) o.0 same.0
      (and_both (bytes_eq (measurement_of o.0.series) (measurement_of pair.series)) (bytes_eq o.0.field pair.field) (text_same (measurement_of o.0.series) (measurement_of pair.series) m) (text_same o.0.field pair.field (sym same.1)))))

  -- what is told of the first place's list is whether the pair is there
  pub there_is : (old : Listing) (places : List ℕ) (there : Bool) → Holds pairs old → length old.terms ≡ length old.lists → IsThere pair.id places old.lists there
      → FirstPlace old.terms pair.series pair.field places → there ≡ is_in pairs pair
  there_is old places there holds long was first =
      let below = there_below old.terms first.place (Field (measurement_of pair.series) pair.field) first.field in
      let l = some_there old.lists first.place (omega (arith, below, long)) in
      was first.place first.others l.0 first.parts l.1 ∙ (holds.told first.place (Field (measurement_of pair.series) pair.field) l.0 first.field l.1).has pair.id ∙ field_in

  -- ---- the pairs with one more

  pub once_more : ((p : Pair) → count_by (is_same p) pairs ≤ 1) → is_in pairs pair ≡ false → (p : Pair) → count_by (is_same p) (pair ∷ pairs) ≤ 1
  once_more once none p = ⊎_elim
      (λ (own : is_same p pair ≡ true).
      let same = same_parts p pair own in
      let zero = none_counted (is_same p) pairs (λ o m e. let also = same_parts p o e in both_ways (in_any (is_same pair) pairs o m (parts_same pair o (sym same.0 ∙ also.0) (sym same.1 ∙ also.1))) none) in
      let c = count_cons (is_same p) pair pairs in
      let one : bit (is_same p pair) ≡ 1 = ap bit own in
      omega (arith, zero, c, one))
      (λ (other : is_same p pair ≡ false).
      let c = count_cons (is_same p) pair pairs in
      let nothing : bit (is_same p pair) ≡ 0 = ap bit other in
      let before = once p in
      omega (arith, c, nothing, before))
      (cases_Bool (is_same p pair))

  pub agree_more : AllByRecursion (Agrees pairs) pairs → AllByRecursion (Agrees (pair ∷ pairs)) (pair ∷ pairs)
  agree_more all = (
    (λ _. refl, agree),
    all_from (Agrees (pair ∷ pairs)) pairs (λ o m. (
      λ is. sym (all_in (λ (x : Pair). x.id ≡ pair.id → x.series ≡ pair.series) pairs o agree m (sym is)),
      all_in (Agrees pairs) pairs o all m,
    )),
  )

  pub agree_less : AllByRecursion (Agrees pairs) pairs → AllByRecursion (Agrees (without_pair pair pairs)) (without_pair pair pairs)
  agree_less all = all_from (Agrees (without_pair pair pairs)) (without_pair pair pairs) (λ o m.
      all_filter (λ (x : Pair). x.id ≡ o.id → x.series ≡ o.series) (λ x. not (is_same pair x)) pairs (all_in (Agrees pairs) pairs o all (filter_in (λ x. not (is_same pair x)) pairs o m).0))

  -- ---- one id a series

  pub alone_more : IsAlone pairs pair → AllByRecursion (IsAlone pairs) pairs → AllByRecursion (IsAlone (pair ∷ pairs)) (pair ∷ pairs)
  alone_more alone all = (
    (λ _. refl, alone),
    all_from (IsAlone (pair ∷ pairs)) pairs (λ o m. (
      λ is. sym (all_in (λ (x : Pair). x.series ≡ pair.series → x.id ≡ pair.id) pairs o alone m (sym is)),
      all_in (IsAlone pairs) pairs o all m,
    )),
  )

  pub alone_less : AllByRecursion (IsAlone pairs) pairs → AllByRecursion (IsAlone (without_pair pair pairs)) (without_pair pair pairs)
  alone_less all = all_from (IsAlone (without_pair pair pairs)) (without_pair pair pairs) (λ o m.
      all_filter (λ (x : Pair). x.series ≡ o.series → x.id ≡ o.id) (λ x. not (is_same pair x)) pairs (all_in (IsAlone pairs) pairs o all (filter_in (λ x. not (is_same pair x)) pairs o m).0))

  -- ---- the counts

  pub counts_more : (counts counts' : List ℕ) → pair.id < length counts → counts' ≡ set counts pair.id (get_or counts pair.id 0 + 1) → ((id : ℕ) → get_or counts id 0 ≡ count_by (λ o. nat_eq id o.id) pairs)
      → (id : ℕ) → get_or counts' id 0 ≡ count_by (λ o. nat_eq id o.id) (pair ∷ pairs)
  counts_more counts counts' long is counted id = ap (λ (c : List ℕ). get_or c id 0) is ∙ by (nat_eq id pair.id) refl
    where
      by : (b : Bool) → nat_eq id pair.id ≡ b → get_or (set counts pair.id (get_or counts pair.id 0 + 1)) id 0 ≡ count_by (λ (o : Pair). nat_eq id o.id) (pair ∷ pairs)
      by true e =
          let own = same_nat id pair.id e in
          let c = count_cons (λ (o : Pair). nat_eq id o.id) pair pairs in
          let one : bit (nat_eq id pair.id) ≡ 1 = ap bit e in
          let was = counted id in
          let at = ap (λ (i : ℕ). get_or (set counts pair.id (get_or counts pair.id 0 + 1)) i 0) own ∙ get_or-set_same counts pair.id (get_or counts pair.id 0 + 1) 0 long in
          let at' = ap (λ (i : ℕ). get_or counts i 0) own in
          omega (arith, c, one, was, at, at')
      by false e =
          let c = count_cons (λ (o : Pair). nat_eq id o.id) pair pairs in
          let nothing : bit (nat_eq id pair.id) ≡ 0 = ap bit e in
          let was = counted id in
          let at = get_or-set_other counts pair.id id (get_or counts pair.id 0 + 1) 0 (λ own. both_ways (nat_same id pair.id own) e) in
          omega (arith, c, nothing, was, at)

  once_there : count_by (is_same pair) pairs ≤ 1 → is_in pairs pair ≡ true → count_by (is_same pair) pairs ≡ 1
  once_there once there = let o = any_in (is_same pair) pairs there in let some = some_counted (is_same pair) pairs o.0 o.1 o.2 in omega (arith, once, some)

  pub one_less : count_by (is_same pair) pairs ≤ 1 → is_in pairs pair ≡ true → count_by (λ o. nat_eq pair.id o.id) (without_pair pair pairs) + 1 ≡ count_by (λ o. nat_eq pair.id o.id) pairs
  one_less once there =
      let one = once_there once there in
      let p = parted (λ (o : Pair). nat_eq pair.id o.id) (is_same pair) pairs (λ o e. nat_same pair.id o.id (same_parts pair o e).0) in
      omega (arith, one, p)

  others_stay : (id : ℕ) → nat_eq id pair.id ≡ false → count_by (λ o. nat_eq id o.id) (without_pair pair pairs) ≡ count_by (λ o. nat_eq id o.id) pairs
  others_stay id other = as_many (λ (o : Pair). nat_eq id o.id) (λ o. not (is_same pair o)) pairs
      (λ o e. ap not (not_false (is_same pair o) (λ s. both_ways (nat_same id pair.id (same_nat id o.id e ∙ sym (same_parts pair o s).0)) other)))

  pub counts_less : (counts counts' : List ℕ) → pair.id < length counts → counts' ≡ set counts pair.id (get_or counts pair.id 0 - 1) → count_by (is_same pair) pairs ≤ 1 → is_in pairs pair ≡ true
      → ((id : ℕ) → get_or counts id 0 ≡ count_by (λ o. nat_eq id o.id) pairs) → (id : ℕ) → get_or counts' id 0 ≡ count_by (λ o. nat_eq id o.id) (without_pair pair pairs)
  counts_less counts counts' long is once there counted id = ap (λ (c : List ℕ). get_or c id 0) is ∙ by (nat_eq id pair.id) refl
    where
      by : (b : Bool) → nat_eq id pair.id ≡ b → get_or (set counts pair.id (get_or counts pair.id 0 - 1)) id 0 ≡ count_by (λ (o : Pair). nat_eq id o.id) (without_pair pair pairs)
      by true e =
          let own = same_nat id pair.id e in
          let less = one_less once there in
          let was = counted pair.id in
          let at = ap (λ (i : ℕ). get_or (set counts pair.id (get_or counts pair.id 0 - 1)) i 0) own ∙ get_or-set_same counts pair.id (get_or counts pair.id 0 - 1) 0 long in
          let at' = ap (λ (i : ℕ). count_by (λ (o : Pair). nat_eq i o.id) (without_pair pair pairs)) own in
          omega (arith, less, was, at, at')
      by false e =
          get_or-set_other counts pair.id id (get_or counts pair.id 0 - 1) 0 (λ own. both_ways (nat_same id pair.id own) e) ∙ counted id ∙ sym (others_stay id e)

  lens : (xs : List Pair) → count_by (λ (o : Pair). true) xs ≡ length xs
  lens [] = refl
  lens (x ∷ xs) = let c = count_cons (λ (o : Pair). true) x xs in let r = lens xs in omega (arith, c, r)

  pub length_less : count_by (is_same pair) pairs ≤ 1 → is_in pairs pair ≡ true → length (without_pair pair pairs) + 1 ≡ length pairs
  length_less once there =
      let one = once_there once there in
      let p = parted (λ (o : Pair). true) (is_same pair) pairs (λ o e. refl) in
      let a = lens (without_pair pair pairs) in
      let b = lens pairs in
      omega (arith, one, p, a, b)
