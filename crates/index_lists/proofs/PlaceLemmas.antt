-- Terms that get places, and steps over places.
use Rattle.std.proofs.Common.{◌≡◌, ℕ, zero, suc, ◌+◌, ◌<◌, ◌≤◌, Bool, true, false, nat_eq, List, [], ◌∷◌, ◌++◌, map, length, drop, get_or, position, cond, is_some, Result, Ok, Err, OnErr, Option, Some, None, slice_get, refl, sym, ap, ◌∙◌, subst, ⊎_elim, arith, append_assoc, append-nil}
use Rattle.std.specs.List.{AllByRecursion, IsDistinct, count_by}
use Rattle.std.specs.Map.{keys_of, lookup}
use Rattle.std.proofs.lemmas.Bool.{cases_Bool, false≢true}
use Rattle.std.proofs.lemmas.List.{map-append}
use Rattle.std.proofs.lemmas.List.Quantifiers.{position-Some}
use Rattle.std.proofs.Math.Seq.{drop-cons}
use Rattle.index_lists.specs.declared.term.Term.{Term}
use Rattle.index_lists.specs.Listing.{IsKnown, Listed, Puts}
use Rattle.index_lists.specs.Ready.{StandAt}
use Rattle.index_lists.specs.Steps.{Grows, HaveRoom, KeepsIds, MakesRoom, StepsAt, Times, no_ids}
use Rattle.index_lists.proofs.HoldLemmas.{put_room}
use Rattle.index_lists.proofs.PairLemmas.{nat_same}
use Rattle.index_lists.proofs.StepLemmas.{Entry, bit, count_cons}

-- ---- terms that are added

pub front_get : {X : Type 0} (xs ys : List X) (p : ℕ) (x : X) → slice_get xs p ≡ Some x → slice_get (xs ++ ys) p ≡ Some x
front_get [] ys p x e = absurd cc
front_get (y ∷ xs) ys zero x e = e
front_get (y ∷ xs) ys (suc p) x e = front_get xs ys p x e

pub last_get : {X : Type 0} (xs : List X) (x : X) → slice_get (xs ++ x ∷ []) (length xs) ≡ Some x
last_get [] x = refl
last_get (y ∷ xs) x = last_get xs x

pub known_front : (terms more : List Term) (term : Term) → IsKnown terms term → IsKnown (terms ++ more) term
known_front terms more term k = (k.0, front_get terms more k.0 term k.1)

pub grows_none : (terms : List Term) (lists : List Listed) → Grows terms lists terms lists
grows_none terms lists = record { more = []; terms_are = sym (append-nil terms); lists_are = sym (append-nil lists); fresh = tt }

pub grows_one : (terms terms' : List Term) (lists lists' : List Listed) (term : Term) → (IsKnown terms term → ⊥) → terms' ≡ terms ++ term ∷ [] → lists' ≡ lists ++ no_ids ∷ [] → Grows terms lists terms' lists'
grows_one terms terms' lists lists' term none a b = record { more = term ∷ []; terms_are = a; lists_are = b; fresh = (none, tt) }

pub all_weaker : {X : Type 0} (P Q : X → Type 0) (xs : List X) → ((x : X) → P x → Q x) → AllByRecursion P xs → AllByRecursion Q xs
all_weaker P Q [] f all = tt
all_weaker P Q (x ∷ xs) f all = (f x all.0, all_weaker P Q xs f all.1)

all_both : {X : Type 0} (P : X → Type 0) (xs ys : List X) → AllByRecursion P xs → AllByRecursion P ys → AllByRecursion P (xs ++ ys)
all_both P [] ys a b = b
all_both P (x ∷ xs) ys a b = (a.0, all_both P xs ys a.1 b)

pub grows_then : (terms mid terms' : List Term) (lists mids lists' : List Listed) → Grows terms lists mid mids → Grows mid mids terms' lists' → Grows terms lists terms' lists'
grows_then terms mid terms' lists mids lists' a b = record {
  more = a.more ++ b.more;
  terms_are = b.terms_are ∙ ap (λ (ts : List Term). ts ++ b.more) a.terms_are ∙ append_assoc terms a.more b.more;
  lists_are =
      b.lists_are ∙ ap (λ (ls : List Listed). ls ++ map (λ (t : Term). no_ids) b.more) a.lists_are
      ∙ append_assoc lists (map (λ (t : Term). no_ids) a.more) (map (λ (t : Term). no_ids) b.more)
      ∙ ap (λ (ls : List Listed). lists ++ ls) (sym (map-append (λ (t : Term). no_ids) a.more b.more));
  fresh = all_both (λ t. IsKnown terms t → ⊥) a.more b.more a.fresh
      (all_weaker (λ t. IsKnown mid t → ⊥) (λ t. IsKnown terms t → ⊥) b.more (λ t none k. none (subst (λ (ts : List Term). IsKnown ts t) (sym a.terms_are) (known_front terms a.more t k))) b.fresh);
}

heads_of : {X : Type 0} (x y : X) (xs ys : List X) → x ∷ xs ≡ y ∷ ys → (x ≡ y) × (xs ≡ ys)
heads_of x y xs ys e = (cc e, cc e)

stand_front : (terms more wanted : List Term) (places : List ℕ) → StandAt terms wanted places → StandAt (terms ++ more) wanted places
stand_front terms more [] [] at = refl
stand_front terms more [] (p ∷ places) at = absurd cc
stand_front terms more (w ∷ wanted) [] at = absurd cc
stand_front terms more (w ∷ wanted) (p ∷ places) at =
    let parts = heads_of (slice_get terms p) (Some w) (map (slice_get terms) places) (map (λ (t : Term). Some t) wanted) at in
    λ i. front_get terms more p w parts.0 i ∷ stand_front terms more wanted places parts.1 i

pub stand_grows : (terms terms' : List Term) (lists lists' : List Listed) (wanted : List Term) (places : List ℕ) → Grows terms lists terms' lists' → StandAt terms wanted places → StandAt terms' wanted places
stand_grows terms terms' lists lists' wanted places grows at = subst (λ (ts : List Term). StandAt ts wanted places) (sym grows.terms_are) (stand_front terms grows.more wanted places at)

pub stand_push : (terms before : List Term) (places places' : List ℕ) (term : Term) (place : ℕ) → places' ≡ places ++ place ∷ [] → StandAt terms before places → slice_get terms place ≡ Some term → StandAt terms (before ++ term ∷ []) places'
stand_push terms before places places' term place is at here =
    ap (λ (ps : List ℕ). map (slice_get terms) ps) is ∙ map-append (slice_get terms) places (place ∷ [])
    ∙ (λ i. at i ++ here i ∷ [])
    ∙ sym (map-append (λ (t : Term). Some t) before (term ∷ []))

-- ---- the place of a term

-- a test of terms that tells equal ones
pub record TellsTerms (eq : Term → Term → Bool) : Type 0 where
  pub same : (a b : Term) → eq a b ≡ true → a ≡ b
  pub itself : (a : Term) → eq a a ≡ true

at_place : (eq : Term → Term → Bool) → TellsTerms eq → (terms : List Term) (term : Term) (p : ℕ) (d : Term) → p < length terms → eq term (get_or terms p d) ≡ true → slice_get terms p ≡ Some term
at_place eq tells [] term p d less e = absurd (omega (arith, less))
at_place eq tells (t ∷ terms) term zero d less e = ap (λ (x : Term). Some x) (sym (tells.same term t e))
at_place eq tells (t ∷ terms) term (suc p) d less e = at_place eq tells terms term p d (omega (arith, less)) e

pub found_place : (eq : Term → Term → Bool) (terms : List Term) (term : Term) (p : ℕ) → position (eq term) terms ≡ Some p → TellsTerms eq → slice_get terms p ≡ Some term
found_place eq terms term p e tells = let f = position-Some (eq term) terms p term e in at_place eq tells terms term p term f.0 f.1

pub not_known : (eq : Term → Term → Bool) (es : List Entry) (term : Term) → is_some (lookup (eq term) es) ≡ false → TellsTerms eq → IsKnown (keys_of es) term → ⊥
not_known eq es term e tells k = no_place es k.0 e k.1
  where
    yes : (x : Entry) (es : List Entry) → eq term x.0 ≡ true → is_some (cond (eq term x.0) (Some x.1) (lookup (eq term) es)) ≡ false → ⊥
    yes x es is e = false≢true (sym e ∙ ap (λ (b : Bool). is_some (cond b (Some x.1) (lookup (eq term) es))) is)

    no : (x : Entry) (es : List Entry) → eq term x.0 ≡ false → is_some (cond (eq term x.0) (Some x.1) (lookup (eq term) es)) ≡ false → is_some (lookup (eq term) es) ≡ false
    no x es is e = sym (ap (λ (b : Bool). is_some (cond b (Some x.1) (lookup (eq term) es))) is) ∙ e

    no_place : (es : List Entry) (p : ℕ) → is_some (lookup (eq term) es) ≡ false → slice_get (keys_of es) p ≡ Some term → ⊥
    no_place [] p e at = absurd cc
    no_place (x ∷ es) zero e at = let own : x.0 ≡ term = cc at in yes x es (ap (eq term) own ∙ tells.itself term) e
    no_place (x ∷ es) (suc p) e at = ⊎_elim (λ (is : eq term x.0 ≡ true). yes x es is e) (λ (is : eq term x.0 ≡ false). no_place es p (no x es is e) at) (cases_Bool (eq term x.0))

not_there : (eq : Term → Term → Bool) → TellsTerms eq → (t : Term) (ts : List Term) → AllByRecursion (λ x. eq t x ≡ false) ts → (q : ℕ) (term : Term) → t ≡ term → slice_get ts q ≡ Some term → ⊥
not_there eq tells t [] all q term own b = absurd cc
not_there eq tells t (x ∷ ts) all zero term own b = let is : x ≡ term = cc b in false≢true (sym all.0 ∙ ap (eq t) (is ∙ sym own) ∙ tells.itself t)
not_there eq tells t (x ∷ ts) all (suc q) term own b = not_there eq tells t ts all.1 q term own b

-- no term stands at two places
pub apart_terms : (eq : Term → Term → Bool) (terms : List Term) → IsDistinct eq terms → TellsTerms eq → (p q : ℕ) (term : Term) → slice_get terms p ≡ Some term → slice_get terms q ≡ Some term → p ≡ q
unfolding IsDistinct
apart_terms eq [] distinct tells p q term a b = absurd cc
apart_terms eq (t ∷ terms) distinct tells zero zero term a b = refl
apart_terms eq (t ∷ terms) distinct tells zero (suc q) term a b = let own : t ≡ term = cc a in absurd (not_there eq tells t terms distinct.0 q term own b)
apart_terms eq (t ∷ terms) distinct tells (suc p) zero term a b = let own : t ≡ term = cc b in absurd (not_there eq tells t terms distinct.0 p term own a)
apart_terms eq (t ∷ terms) distinct tells (suc p) (suc q) term a b = ap suc (apart_terms eq terms distinct.1 tells p q term a b)

pub none_is : {X : Type 0} (o : Option X) → is_some o ≡ false → o ≡ None
none_is None e = refl
none_is (Some x) e = absurd (false≢true (sym e))

pub keys_long : (es : List Entry) → length (keys_of es) ≡ length es
keys_long [] = refl
keys_long (e ∷ es) = ap suc (keys_long es)

-- ---- room

pub rooms_kept : (n : ℕ) (old new : Listed) → Times MakesRoom n old new → (new.ids ≡ old.ids) × (old.room + n ≤ new.room)
rooms_kept zero old new t = (ap (λ (l : Listed). l.ids) t, (let e = ap (λ (l : Listed). l.room) t in omega (arith, e)))
rooms_kept (suc n) old new t = let r = rooms_kept n old t.0 t.1 in (t.2.0 ∙ r.0, (let a = r.1 in let b = t.2.1 in omega (arith, a, b)))

pub steps_keep : (places : List ℕ) (old new : List Listed) → StepsAt MakesRoom places old new → KeepsIds old new
steps_keep places old new steps = λ place listed at.
    let s = steps place listed at in
    let r = rooms_kept (count_by (nat_eq place) places) s.0 listed s.2 in
    (s.0, s.1, r.0, (let a = r.1 in omega (arith, a)))

dropped : (places : List ℕ) (i place : ℕ) → i < length places → count_by (nat_eq place) (drop i places) ≡ bit (nat_eq place (get_or places i 0)) + count_by (nat_eq place) (drop (i + 1) places)
dropped places i place less =
    let cons = drop-cons places i 0 less in
    let next : suc i ≡ i + 1 = omega arith in
    ap (λ (ps : List ℕ). count_by (nat_eq place) ps) cons ∙ count_cons (nat_eq place) (get_or places i 0) (drop (suc i) places)
    ∙ ap (λ (n : ℕ). bit (nat_eq place (get_or places i 0)) + count_by (nat_eq place) (drop n places)) next

pub room_first : (places : List ℕ) (i : ℕ) (lists : List Listed) → i < length places → HaveRoom (drop i places) lists → HaveRoom (get_or places i 0 ∷ []) lists
room_first places i lists less have = λ place listed at.
    let all = have place listed at in
    let d = dropped places i place less in
    let one = count_cons (nat_eq place) (get_or places i 0) [] in
    omega (arith, all, d, one)

pub room_rest : (id : ℕ) (places : List ℕ) (i : ℕ) (old new : List Listed) → i < length places → HaveRoom (drop i places) old → StepsAt (Puts id) (get_or places i 0 ∷ []) old new → HaveRoom (drop (i + 1) places) new
room_rest id places i old new less have step = λ place listed at.
    let s = step place listed at in
    let all = have place s.0 s.1 in
    let d = dropped places i place less in
    let one = count_cons (nat_eq place) (get_or places i 0) [] in
    let r = put_room id (count_by (nat_eq place) (get_or places i 0 ∷ [])) s.0 listed s.2 in
    omega (arith, all, d, one, r)

pub on_err : {T E : Type 0} {P : Type 0} (r : Result T E) → P → OnErr r P
on_err (Ok t) p = tt
on_err (Err e) p = p

-- there is room in the list at the one place
pub one_room : (place : ℕ) (lists : List Listed) (listed : Listed) → HaveRoom (place ∷ []) lists → slice_get lists place ≡ Some listed → 0 < listed.room
one_room place lists listed have at =
    let c = count_cons (nat_eq place) place [] in
    let one : bit (nat_eq place place) ≡ 1 = ap bit (nat_same place place refl) in
    let r = have place listed at in
    omega (arith, c, one, r)

pub one_value : {o : Option Listed} {x y : Listed} → o ≡ Some x → o ≡ Some y → x ≡ y
one_value e f = some_is (sym e ∙ f)
  where
    some_is : {x y : Listed} → Some x ≡ Some y → x ≡ y
    some_is e = cc e

pub no_value : {o : Option Listed} {x : Listed} → o ≡ None → o ≡ Some x → ⊥
no_value e f = none_some (sym e ∙ f)
  where
    none_some : {x : Listed} → None ≡ Some x → ⊥
    none_some e = cc e
