-- Changes that are ready stay so, and the lists stay those of the pairs, while another is made ready.
use Rattle.std.proofs.Common.{◌≡◌, ℕ, zero, suc, ◌+◌, ◌-◌, ◌<◌, ◌≤◌, Bool, true, false, cond, nat_eq, List, [], ◌∷◌, ◌++◌, map, length, get_or, set, take, replicate, Some, None, slice_get, ◌⊎◌, inl, inr, if◌then◌else◌, refl, sym, ap, ◌∙◌, subst, ⊎_elim, arith}
use Rattle.std.specs.List.{AllByRecursion, count_by, list_any}
use Rattle.std.specs.Map.{keys_of, lookup, values_of}
use Rattle.std.proofs.lemmas.Bool.{cases_Bool}
use Rattle.std.proofs.lemmas.List.{length-set, take_all}
use Rattle.std.proofs.lemmas.List.Sums.{count_by-le-length}
use Rattle.index_lists.specs.declared.term.Term.{Term}
use Rattle.index_lists.specs.Listing.{AreIdsOf, Holds, IsKnown, Listed, Listing}
use Rattle.index_lists.specs.Pairs.{Pair}
use Rattle.index_lists.specs.Ready.{AreReady, IsReady, Prepared, StandAt, uses}
use Rattle.index_lists.specs.Making.{Adds, Removes}
use Rattle.index_lists.specs.Steps.{GivesRoom, Grows, HasIds, HaveRoom, KeepsIds, MakesRoom, StepsAt, no_ids}
use Rattle.index_lists.specs.Terms.{is_of, terms_of}
use Rattle.index_lists.proofs.HoldLemmas.{give_ids, give_room, put_room, take_room}
use Rattle.index_lists.proofs.IdLemmas.{none_ascend}
use Rattle.index_lists.proofs.PairLemmas.{all_in, any_in, not_false, none_counted, picks, picked, same_nat}
use Rattle.index_lists.proofs.PlaceLemmas.{TellsTerms, all_weaker, known_front, rooms_kept, stand_grows}
use Rattle.index_lists.proofs.StepLemmas.{Entry}
use Rattle.index_lists.proofs.TermLemmas.{place_of}

pub same_long : (es : List Entry) → length (keys_of es) ≡ length (values_of es)
same_long [] = refl
same_long (e ∷ es) = ap suc (same_long es)

-- ---- a term that is looked up

pub looked_up : (eq : Term → Term → Bool) (es : List Entry) (term : Term) (listed : Listed) → lookup (eq term) es ≡ Some listed → TellsTerms eq
    → (place : ℕ) × (slice_get (keys_of es) place ≡ Some term) × (slice_get (values_of es) place ≡ Some listed)
looked_up eq [] term listed e tells = absurd cc
looked_up eq (x ∷ es) term listed e tells = ⊎_elim
    (λ (is : eq term x.0 ≡ true). (0, ap (λ (t : Term). Some t) (sym (tells.same term x.0 is)), sym (ap (λ (b : Bool). cond b (Some x.1) (lookup (eq term) es)) is) ∙ e))
    (λ (is : eq term x.0 ≡ false).
    let r = looked_up eq es term listed (sym (ap (λ (b : Bool). cond b (Some x.1) (lookup (eq term) es)) is) ∙ e) tells in
    (suc r.0, r.1, r.2))
    (cases_Bool (eq term x.0))

-- a term that has no place is of no pair
pub none_of : (pairs : List Pair) (listing : Listing) (term : Term) → Holds pairs listing → (IsKnown listing.terms term → ⊥) → AreIdsOf (is_of term) pairs []
none_of pairs listing term holds none = record {
  ascending = none_ascend;
  has = λ id. sym (not_false (list_any (picks id term) pairs) (λ a.
      let o = any_in (picks id term) pairs a in
      none (all_in (λ (p : Pair). (t : Term) → is_of t p.series p.field ≡ true → IsKnown listing.terms t) pairs o.0 holds.known o.1 term (picked id term o.0 o.2).1)));
}

-- ---- while another change is made ready

-- Terms may have got places, lists room, and ids counts.
pub record Grown (old new : Listing) : Type 0 where
  pub mids : List Listed
  pub grows : Grows old.terms old.lists new.terms mids
  pub kept : KeepsIds mids new.lists
  pub longer : length old.counts ≤ length new.counts
  pub same : (id : ℕ) → get_or new.counts id 0 ≡ get_or old.counts id 0
  pub pairs : new.pairs ≡ old.pairs
  pub room : old.room ≤ new.room

-- an item of a list is that of its front, or stands behind it
get_parts : {X : Type 0} (xs ys : List X) (p : ℕ) (x : X) → slice_get (xs ++ ys) p ≡ Some x → ((p < length xs) × (slice_get xs p ≡ Some x)) ⊎ ((length xs ≤ p) × (slice_get ys (p - length xs) ≡ Some x))
get_parts [] ys p x e = inr (omega arith, (let is : p - 0 ≡ p = omega arith in ap (slice_get ys) is ∙ e))
get_parts (z ∷ xs) ys zero x e = inl (omega arith, e)
get_parts (z ∷ xs) ys (suc p) x e = ⊎_elim
    (λ (a : (p < length xs) × (slice_get xs p ≡ Some x)). inl ((let l = a.0 in omega (arith, l)), a.1))
    (λ (b : (length xs ≤ p) × (slice_get ys (p - length xs) ≡ Some x)).
    inr ((let l = b.0 in omega (arith, l)), (let is : suc p - suc (length xs) ≡ p - length xs = omega arith in ap (slice_get ys) is ∙ b.1)))
    (get_parts xs ys p x e)

get_below : {X : Type 0} (xs : List X) (p : ℕ) (x : X) → slice_get xs p ≡ Some x → p < length xs
get_below [] p x e = absurd cc
get_below (y ∷ xs) zero x e = omega arith
get_below (y ∷ xs) (suc p) x e = let r = get_below xs p x e in omega (arith, r)

all_same : (more : List Term) (p : ℕ) (l : Listed) → slice_get (map (λ (t : Term). no_ids) more) p ≡ Some l → l ≡ no_ids
all_same [] p l e = absurd cc
all_same (t ∷ more) zero l e = let is : no_ids ≡ l = cc e in sym is
all_same (t ∷ more) (suc p) l e = all_same more p l e

all_at : (P : Term → Type 0) (xs : List Term) (p : ℕ) (x : Term) → slice_get xs p ≡ Some x → AllByRecursion P xs → P x
all_at P [] p x e all = absurd cc
all_at P (y ∷ xs) zero x e all = let is : y ≡ x = cc e in subst P is all.0
all_at P (y ∷ xs) (suc p) x e all = all_at P xs p x e all.1

module _ (old new : Listing) (long : length old.terms ≡ length old.lists) (grown : Grown old new) where
  -- a list that was there, with its term, or one that is new and empty
  list_was : (place : ℕ) (listed : Listed) → slice_get new.lists place ≡ Some listed
      → ((was : Listed) × (slice_get old.lists place ≡ Some was) × (listed.ids ≡ was.ids) × (was.room ≤ listed.room)) ⊎ ((length old.lists ≤ place) × (listed.ids ≡ []))
  list_was place listed at =
      let k = grown.kept place listed at in
      ⊎_elim
      (λ (a : (place < length old.lists) × (slice_get old.lists place ≡ Some k.0)). inl (k.0, a.1, k.2, k.3))
      (λ (b : (length old.lists ≤ place) × (slice_get (map (λ (t : Term). no_ids) grown.grows.more) (place - length old.lists) ≡ Some k.0)).
      inr (b.0, k.2 ∙ ap (λ (l : Listed). l.ids) (all_same grown.grows.more (place - length old.lists) k.0 b.1)))
      (get_parts old.lists (map (λ (t : Term). no_ids) grown.grows.more) place k.0 (ap (λ (ls : List Listed). slice_get ls place) (sym grown.grows.lists_are) ∙ k.1))

  term_was : (place : ℕ) (term : Term) → slice_get new.terms place ≡ Some term → ((place < length old.terms) × (slice_get old.terms place ≡ Some term)) ⊎ ((length old.terms ≤ place) × (IsKnown old.terms term → ⊥))
  term_was place term at = ⊎_elim
      (λ (a : (place < length old.terms) × (slice_get old.terms place ≡ Some term)). inl a)
      (λ (b : (length old.terms ≤ place) × (slice_get grown.grows.more (place - length old.terms) ≡ Some term)). inr (b.0, all_at (λ t. IsKnown old.terms t → ⊥) grown.grows.more (place - length old.terms) term b.1 grown.grows.fresh))
      (get_parts old.terms grown.grows.more place term (ap (λ (ts : List Term). slice_get ts place) (sym grown.grows.terms_are) ∙ at))

  known_still : (term : Term) → IsKnown old.terms term → IsKnown new.terms term
  known_still term k = subst (λ (ts : List Term). IsKnown ts term) (sym grown.grows.terms_are) (known_front old.terms grown.grows.more term k)

  pub grown_holds : (pairs : List Pair) → Holds pairs old → Holds pairs new
  grown_holds pairs holds = record {
    told = λ place term listed at_term at_list. ⊎_elim
        (λ (a : (place < length old.terms) × (slice_get old.terms place ≡ Some term)). ⊎_elim
        (λ (l : (was : Listed) × (slice_get old.lists place ≡ Some was) × (listed.ids ≡ was.ids) × (was.room ≤ listed.room)). subst (AreIdsOf (is_of term) pairs) (sym l.2) (holds.told place term l.0 a.1 l.1))
        (λ (n : (length old.lists ≤ place) × (listed.ids ≡ [])). absurd (let x = a.0 in let y = n.0 in omega (arith, x, y, long)))
        (list_was place listed at_list))
        (λ (b : (length old.terms ≤ place) × (IsKnown old.terms term → ⊥)). ⊎_elim
        (λ (l : (was : Listed) × (slice_get old.lists place ≡ Some was) × (listed.ids ≡ was.ids) × (was.room ≤ listed.room)). absurd (let x = get_below old.lists place l.0 l.1 in let y = b.0 in omega (arith, x, y, long)))
        (λ (n : (length old.lists ≤ place) × (listed.ids ≡ [])). subst (AreIdsOf (is_of term) pairs) (sym n.1) (none_of pairs old term holds b.1))
        (list_was place listed at_list))
        (term_was place term at_term);
    known = all_weaker (λ (p : Pair). (t : Term) → is_of t p.series p.field ≡ true → IsKnown old.terms t) (λ (p : Pair). (t : Term) → is_of t p.series p.field ≡ true → IsKnown new.terms t) pairs
        (λ p known t of. known_still t (known t of)) holds.known;
    counted = λ id. grown.same id ∙ holds.counted id;
    all = grown.pairs ∙ holds.all;
    once = holds.once;
    agree = holds.agree;
    alone = holds.alone;
    texts = holds.texts;
  }

  pub ready_still : (prepared : Prepared) → IsReady old prepared → IsReady new prepared
  ready_still prepared ready = record {
    terms = stand_grows old.terms new.terms old.lists grown.mids (terms_of prepared.change.series prepared.change.field) prepared.places grown.grows ready.terms;
    text = ready.text;
    counted = let a = ready.counted in let b = grown.longer in omega (arith, a, b);
  }

  -- a place that is new is of none of those that were ready
  pub unused : (prepared : List Prepared) → AllByRecursion (IsReady old) prepared → (place : ℕ) → length old.lists ≤ place → uses place prepared ≡ 0
  unused [] all place far = refl
  unused (p ∷ prepared) all place far =
      let none = none_counted (nat_eq place) p.places (λ q m e.
      let at = place_of old.terms (terms_of p.change.series p.change.field) p.places q all.0.terms m in
      let below = get_below old.terms q at.0 at.2 in
      let is = same_nat place q e in
      omega (arith, below, is, far, long)) in
      let rest = unused prepared all.1 place far in
      omega (arith, none, rest)

  pub grown_ready : (prepared : List Prepared) → AreReady old prepared → AreReady new prepared
  grown_ready prepared ready = record {
    each = all_weaker (IsReady old) (IsReady new) prepared ready_still ready.each;
    room = λ place listed at. ⊎_elim
        (λ (l : (was : Listed) × (slice_get old.lists place ≡ Some was) × (listed.ids ≡ was.ids) × (was.room ≤ listed.room)). let x = ready.room place l.0 l.1 in let y = l.3 in omega (arith, x, y))
        (λ (n : (length old.lists ≤ place) × (listed.ids ≡ [])). let x = unused prepared ready.each place n.0 in omega (arith, x))
        (list_was place listed at);
    few = let a = ready.few in let b = grown.room in omega (arith, a, b);
  }

uses_push : (place : ℕ) (prepared : List Prepared) (one : Prepared) → uses place (prepared ++ one ∷ []) ≡ uses place prepared + count_by (nat_eq place) one.places
uses_push place [] one = omega arith
uses_push place (p ∷ prepared) one = let r = uses_push place prepared one in omega (arith, r)

length_push : (prepared : List Prepared) (one : Prepared) → length (prepared ++ one ∷ []) ≡ length prepared + 1
length_push [] one = refl
length_push (p ∷ prepared) one = let r = length_push prepared one in omega (arith, r)

all_push : (P : Prepared → Type 0) (prepared : List Prepared) (one : Prepared) → AllByRecursion P prepared → P one → AllByRecursion P (prepared ++ one ∷ [])
all_push P [] one all here = (here, tt)
all_push P (p ∷ prepared) one all here = (all.0, all_push P prepared one all.1 here)

-- one more that is ready, with room at its places
pub ready_more : (mid new : Listing) (prepared : List Prepared) (one : Prepared) → AreReady mid prepared → IsReady new one → StepsAt MakesRoom one.places mid.lists new.lists → new.terms ≡ mid.terms → new.counts ≡ mid.counts → new.room ≡ mid.room + 1
    → AreReady new (prepared ++ one ∷ [])
ready_more mid new prepared one ready is steps terms counts room = record {
  each = all_push (IsReady new) prepared one (all_weaker (IsReady mid) (IsReady new) prepared (λ p r. record {
    terms = subst (λ (ts : List Term). StandAt ts (terms_of p.change.series p.change.field) p.places) (sym terms) r.terms;
    text = r.text;
    counted = let a = r.counted in let b = ap length counts in omega (arith, a, b);
  }) ready.each) is;
  room = λ place listed at.
      let s = steps place listed at in
      let k = (rooms_kept (count_by (nat_eq place) one.places) s.0 listed s.2).1 in
      let was = ready.room place s.0 s.1 in
      let u = uses_push place prepared one in
      omega (arith, k, was, u);
  few = let a = ready.few in let l = length_push prepared one in omega (arith, a, l, room);
}

-- ---- what is told of lists

pub ids_told : (pairs : List Pair) (listing : Listing) (term : Term) (ids : List ℕ) → HasIds listing.terms listing.lists term ids → Holds pairs listing → AreIdsOf (is_of term) pairs ids
ids_told pairs listing term ids has holds = ⊎_elim
    (λ (a : (place : ℕ) × (listed : Listed) × (slice_get listing.terms place ≡ Some term) × (slice_get listing.lists place ≡ Some listed) × (ids ≡ listed.ids)).
    subst (AreIdsOf (is_of term) pairs) (sym a.4) (holds.told a.0 term a.1 a.2 a.3))
    (λ (b : (IsKnown listing.terms term → ⊥) × (ids ≡ [])). subst (AreIdsOf (is_of term) pairs) (sym b.1) (none_of pairs listing term holds b.0))
    has

pub keeps_none : (lists : List Listed) → KeepsIds lists lists
keeps_none lists = λ place new at. (new, at, refl, omega arith)

-- no pairs in no lists
pub holds_none : (listing : Listing) → listing.terms ≡ [] → listing.counts ≡ [] → listing.pairs ≡ 0 → Holds [] listing
holds_none listing terms counts pairs = record {
  told = λ place term listed at_term at_list. absurd (nothing place term (ap (λ (ts : List Term). slice_get ts place) (sym terms) ∙ at_term));
  known = tt;
  counted = λ id. ap (λ (c : List ℕ). get_or c id 0) counts;
  all = pairs;
  once = λ pair. omega arith;
  agree = tt;
  alone = tt;
  texts = tt;
}
  where
    nothing : (place : ℕ) (term : Term) → None ≡ Some term → ⊥
    nothing place term e = cc e

pub ready_none : (listing : Listing) → AreReady listing []
ready_none listing = record { each = tt; room = λ place listed at. omega arith; few = omega arith }

-- ---- the first change is made, or forgotten

-- The terms and the reach of the counts stay, and each list keeps the room that the others want.
pub record Leaves (places : List ℕ) (old new : Listing) : Type 0 where
  pub terms : new.terms ≡ old.terms
  pub counts : length new.counts ≡ length old.counts
  pub lists : (place : ℕ) (listed : Listed) → slice_get new.lists place ≡ Some listed → (was : Listed) × (slice_get old.lists place ≡ Some was) × (was.room ≤ listed.room + count_by (nat_eq place) places)
  pub room : old.room ≤ new.room + 1

pub ready_behind : (old new : Listing) (staged : Prepared) (prepared : List Prepared) → Leaves staged.places old new → AreReady old (staged ∷ prepared) → AreReady new prepared
ready_behind old new staged prepared leaves ready = record {
  each = all_weaker (IsReady old) (IsReady new) prepared (λ p r. record {
    terms = subst (λ (ts : List Term). StandAt ts (terms_of p.change.series p.change.field) p.places) (sym leaves.terms) r.terms;
    text = r.text;
    counted = let a = r.counted in let b = leaves.counts in omega (arith, a, b);
  }) ready.each.1;
  room = λ place listed at. let l = leaves.lists place listed at in let was = ready.room place l.0 l.1 in let kept = l.2 in omega (arith, was, kept);
  few = let a = ready.few in let b = leaves.room in omega (arith, a, b);
}

long_set : (b : Bool) (counts : List ℕ) (id n : ℕ) → length (if b then counts else set counts id n) ≡ length counts
long_set true counts id n = refl
long_set false counts id n = length-set counts id n

long_set' : (b : Bool) (counts : List ℕ) (id n : ℕ) → length (if b then set counts id n else counts) ≡ length counts
long_set' true counts id n = length-set counts id n
long_set' false counts id n = refl

pub add_leaves : (old mid new : Listing) (id : ℕ) (places : List ℕ) → mid.terms ≡ old.terms → mid.lists ≡ old.lists → mid.counts ≡ old.counts → old.room ≤ mid.room + 1 → Adds id places mid new → Leaves places old new
add_leaves old mid new id places terms lists counts room adds = record {
  terms = adds.terms ∙ terms;
  counts = ap length adds.counts ∙ long_set adds.there mid.counts id (get_or mid.counts id 0 + 1) ∙ ap length counts;
  lists = λ place listed at.
      let s = adds.lists place listed at in
      let r = put_room id (count_by (nat_eq place) places) s.0 listed s.2 in
      (s.0, ap (λ (ls : List Listed). slice_get ls place) (sym lists) ∙ s.1, omega (arith, r));
  room = let r = adds.room in omega (arith, r, room);
}

pub remove_leaves : (old mid new : Listing) (id : ℕ) (places : List ℕ) → mid.terms ≡ old.terms → mid.lists ≡ old.lists → mid.counts ≡ old.counts → old.room ≤ mid.room + 1 → Removes id places mid new → Leaves places old new
remove_leaves old mid new id places terms lists counts room removes = record {
  terms = removes.terms ∙ terms;
  counts = ap length removes.counts ∙ long_set' removes.there mid.counts id (get_or mid.counts id 0 - 1) ∙ ap length counts;
  lists = λ place listed at.
      let g = removes.others place listed at in
      let m = removes.gives place g.0 g.1 in
      let w = removes.field place m.0 m.1 in
      let a = take_room id _ g.0 listed g.2 in
      let b = give_room (count_by (nat_eq place) places) m.0 g.0 m.2 in
      let c = take_room id _ w.0 m.0 w.2 in
      (w.0, ap (λ (ls : List Listed). slice_get ls place) (sym lists) ∙ w.1, omega (arith, a, b, c));
  room = let r = removes.room in omega (arith, r, room);
}

pub give_leaves : (old new : Listing) (places : List ℕ) → new.terms ≡ old.terms → new.counts ≡ old.counts → old.room ≤ new.room + 1 → StepsAt GivesRoom places old.lists new.lists → Leaves places old new
give_leaves old new places terms counts room gives = record {
  terms = terms;
  counts = ap length counts;
  lists = λ place listed at. let s = gives place listed at in let r = give_room (count_by (nat_eq place) places) s.0 listed s.2 in (s.0, s.1, omega (arith, r));
  room = room;
}

pub give_holds : (pairs : List Pair) (old new : Listing) (places : List ℕ) → new.terms ≡ old.terms → new.counts ≡ old.counts → new.pairs ≡ old.pairs → StepsAt GivesRoom places old.lists new.lists → Holds pairs old → Holds pairs new
give_holds pairs old new places terms counts all gives holds = record {
  told = λ place term listed at_term at_list.
      let s = gives place listed at_list in
      subst (AreIdsOf (is_of term) pairs) (sym (give_ids (count_by (nat_eq place) places) s.0 listed s.2)) (holds.told place term s.0 (ap (λ (ts : List Term). slice_get ts place) (sym terms) ∙ at_term) s.1);
  known = subst (λ (ts : List Term). AllByRecursion (λ (p : Pair). (t : Term) → is_of t p.series p.field ≡ true → IsKnown ts t) pairs) (sym terms) holds.known;
  counted = λ id. ap (λ (c : List ℕ). get_or c id 0) counts ∙ holds.counted id;
  all = all ∙ holds.all;
  once = holds.once;
  agree = holds.agree;
  alone = holds.alone;
  texts = holds.texts;
}

-- the room of the changes is no part of what the lists are
pub holds_room : (pairs : List Pair) (old new : Listing) → new.terms ≡ old.terms → new.lists ≡ old.lists → new.counts ≡ old.counts → new.pairs ≡ old.pairs → Holds pairs old → Holds pairs new
holds_room pairs old new terms lists counts all holds = record {
  told = λ place term listed at_term at_list. holds.told place term listed (ap (λ (ts : List Term). slice_get ts place) (sym terms) ∙ at_term) (ap (λ (ls : List Listed). slice_get ls place) (sym lists) ∙ at_list);
  known = subst (λ (ts : List Term). AllByRecursion (λ (p : Pair). (t : Term) → is_of t p.series p.field ≡ true → IsKnown ts t) pairs) (sym terms) holds.known;
  counted = λ id. ap (λ (c : List ℕ). get_or c id 0) counts ∙ holds.counted id;
  all = all ∙ holds.all;
  once = holds.once;
  agree = holds.agree;
  alone = holds.alone;
  texts = holds.texts;
}

pub ready_room : (old new : Listing) (prepared : Prepared) → new.terms ≡ old.terms → new.counts ≡ old.counts → IsReady old prepared → IsReady new prepared
ready_room old new p terms counts r = record {
  terms = subst (λ (ts : List Term). StandAt ts (terms_of p.change.series p.change.field) p.places) (sym terms) r.terms;
  text = r.text;
  counted = let a = r.counted in let b = ap length counts in omega (arith, a, b);
}

-- there is room at the places of the first
pub first_room : (old : Listing) (staged : Prepared) (prepared : List Prepared) → AreReady old (staged ∷ prepared) → HaveRoom staged.places old.lists
first_room old staged prepared ready = λ place listed at. let r = ready.room place listed at in omega (arith, r)

-- no id is counted more often than there are pairs
pub count_few : (pairs : List Pair) (listing : Listing) → Holds pairs listing → (id : ℕ) → get_or listing.counts id 0 ≤ listing.pairs
count_few pairs listing holds id =
    let a = holds.counted id in
    let b = holds.all in
    let c = count_by-le-length (λ (p : Pair). nat_eq id p.id) pairs in
    omega (arith, a, b, c)

-- counts that are filled up with zeros
abbrev zeros_of : ℕ → List ℕ
zeros_of k = replicate k 0

no_count : (k j : ℕ) → get_or (zeros_of k) j 0 ≡ 0
no_count zero j = refl
no_count (suc k) zero = refl
no_count (suc k) (suc j) = no_count k j

behind_counts : (xs : List ℕ) (k j : ℕ) → get_or (xs ++ zeros_of k) j 0 ≡ get_or xs j 0
behind_counts [] k j = no_count k j
behind_counts (x ∷ xs) k zero = refl
behind_counts (x ∷ xs) k (suc j) = behind_counts xs k j

pub zeros : (counts : List ℕ) (n k j : ℕ) → length counts ≤ n → get_or (take n counts ++ zeros_of k) j 0 ≡ get_or counts j 0
zeros counts n k j long = ap (λ (l : List ℕ). get_or (l ++ zeros_of k) j 0) (take_all n counts long) ∙ behind_counts counts k j
