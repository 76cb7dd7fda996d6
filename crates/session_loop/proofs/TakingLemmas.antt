-- How the rows of the keys of a view are taken, one after another.
use Rattle.std.proofs.Common.{◌≡◌, ℕ, zero, suc, ◌+◌, ◌<◌, ◌≤◌, Bool, true, false, List, [], ◌∷◌, ◌++◌, length, map, drop, Option, Some, None, refl, sym, ap, subst, ◌∙◌, append_assoc, arith, inl, inr, slice_get, slice_set, nat_eq, if◌then◌else◌}
use Rattle.std.proofs.lemmas.List.{append-nil, map-append, drop-drop, drop_all}
use Rattle.std.specs.Bool.{MatchBool}
use Rattle.std.specs.Cmp.Lexicographic.{pointwise}
use Rattle.point_model.specs.Rows.{Row}
use Rattle.point_model.specs.Cursors.{Key, Told, TakesOf}
use Rattle.session_loop.specs.declared.select.Found.{Found}
use Rattle.session_loop.specs.Merged.{at_place, rows_from, TakesKey, TakesField, TakesFront, AreToTake}

get_set : {X : Type 0} (xs : List X) (k : ℕ) (x y : X) → slice_get xs k ≡ Some x → slice_get (slice_set xs k y) k ≡ Some y
get_set [] k x y h = cc h
get_set (z ∷ xs) zero x y h = refl
get_set (z ∷ xs) (suc k) x y h = get_set xs k x y h

set_set : {X : Type 0} (xs : List X) (k : ℕ) (y z : X) → slice_set (slice_set xs k y) k z ≡ slice_set xs k z
set_set [] k y z = refl
set_set (x ∷ xs) zero y z = refl
set_set (x ∷ xs) (suc k) y z = ap (λ (l : List _). x ∷ l) (set_set xs k y z)

some_one : {X : Type 0} (x y : X) → Some x ≡ Some y → x ≡ y
some_one x y h = cc h

-- nothing is taken yet
pub front_none : (key : ℕ) (found : List Found) (left : List (List Row)) → TakesFront key found found left left
front_none key found left = inl (refl, refl)

-- one row more
pub front_more : (key : ℕ) (row : Row) (old mid : List Found) (left now new : List (List Row))
    → TakesFront key old mid left now → TakesOf key (Some row) now new → TakesFront key old (mid ++ at_place key row ∷ []) left new
front_more key row old mid left now new (inl none) takes =
    inr (
      row ∷ [],
      takes.rest,
      ap (λ (l : List (List Row)). slice_get l key) (sym none.1) ∙ takes.was ∙ ap Some takes.takes,
      takes.others ∙ ap (λ (l : List (List Row)). slice_set l key takes.rest) none.1,
      ap (λ (l : List Found). l ++ at_place key row ∷ []) none.0,
    )
front_more key row old mid left now new (inr some) takes =
    let taken = some.0 in
    let behind = some.1 in
    let here : behind ≡ takes.rows =
    some_one behind takes.rows (sym (get_set left key (taken ++ behind) behind some.2) ∙ ap (λ (l : List (List Row)). slice_get l key) (sym some.3) ∙ takes.was) in
    let next : behind ≡ row ∷ takes.rest = here ∙ takes.takes in
    inr (
      taken ++ row ∷ [],
      takes.rest,
      some.2 ∙ ap (λ (l : List Row). Some (taken ++ l)) next ∙ ap Some (sym (append_assoc taken (row ∷ []) takes.rest)),
      takes.others ∙ ap (λ (l : List (List Row)). slice_set l key takes.rest) some.3 ∙ set_set left key behind takes.rest,
      ap (λ (l : List Found). l ++ at_place key row ∷ []) some.4 ∙ append_assoc old (map (at_place key) taken) (at_place key row ∷ [])
          ∙ ap (λ (l : List Found). old ++ l) (sym (map-append (at_place key) taken (row ∷ []))),
    )

-- no row is left
pub front_all : (key : ℕ) (old mid : List Found) (left now new : List (List Row))
    → TakesFront key old mid left now → TakesOf key None now new → TakesKey key old mid left new
front_all key old mid left now new (inl none) takes = (
  [],
  ap (λ (l : List (List Row)). slice_get l key) (sym none.1) ∙ takes.was ∙ ap Some takes.takes.0,
  takes.others ∙ ap (λ (l : List (List Row)). slice_set l key takes.rest) none.1 ∙ ap (slice_set left key) takes.takes.1,
  none.0 ∙ sym (append-nil old),
)
front_all key old mid left now new (inr some) takes =
    let taken = some.0 in
    let behind = some.1 in
    let here : behind ≡ [] =
    some_one behind takes.rows (sym (get_set left key (taken ++ behind) behind some.2) ∙ ap (λ (l : List (List Row)). slice_get l key) (sym some.3) ∙ takes.was) ∙ takes.takes.0 in (
      taken,
      some.2 ∙ ap (λ (l : List Row). Some (taken ++ l)) here ∙ ap Some (append-nil taken),
      takes.others ∙ ap (λ (l : List (List Row)). slice_set l key takes.rest) some.3 ∙ set_set left key behind takes.rest ∙ ap (slice_set left key) takes.takes.1,
      some.4,
    )

-- steps of what is told, one behind the other
pub told_then : (A B C : List (List Row) → List (List Row) → Type 0) (first second third : Option (List (List Row)))
    → ((x y z : List (List Row)) → A x y → B y z → C x z) → Told A first second → Told B second third → Told C first third
told_then A B C None None None step a b = tt
told_then A B C None None (Some z) step a b = b
told_then A B C None (Some y) third step a b = absurd a
told_then A B C (Some x) None third step a b = absurd a
told_then A B C (Some x) (Some y) None step a b = absurd b
told_then A B C (Some x) (Some y) (Some z) step a b = step x y z a b

pub told_still : (A : List (List Row) → List (List Row) → Type 0) (first : Option (List (List Row))) → ((x : List (List Row)) → A x x) → Told A first first
told_still A None same = tt
told_still A (Some x) same = same x

-- The keys, one after another.

drop_get : {X : Type 0} (xs : List X) (k : ℕ) (x : X) → slice_get xs k ≡ Some x → drop k xs ≡ x ∷ drop (k + 1) xs
drop_get [] k x h = cc h
drop_get (y ∷ xs) zero x h = let same : y ≡ x = cc h in subst (λ (z : _). y ∷ xs ≡ z ∷ xs) same refl
drop_get (y ∷ xs) (suc k) x h =
    let next : suc (k + 1) ≡ suc k + 1 = omega arith in
    subst (λ (n : ℕ). drop k xs ≡ x ∷ drop n (y ∷ xs)) next (drop_get xs k x h)

drop_set : {X : Type 0} (xs : List X) (k : ℕ) (x : X) → drop (k + 1) (slice_set xs k x) ≡ drop (k + 1) xs
drop_set [] k x = refl
drop_set (y ∷ xs) zero x = refl
drop_set (y ∷ xs) (suc k) x =
    let next : suc (k + 1) ≡ suc k + 1 = omega arith in
    subst (λ (n : ℕ). drop n (y ∷ slice_set xs k x) ≡ drop n (y ∷ xs)) next (drop_set xs k x)

-- a key of the field is taken
pub key_taken : (field : List ℕ) (keys : List Key) (first found now : List Found) (left rest later : List (List Row)) (place : ℕ) (key : Key)
    → slice_get keys place ≡ Some key → pointwise nat_eq key.1 field ≡ true
    → AreToTake field keys first left place found rest → TakesKey place found now rest later → AreToTake field keys first left (place + 1) now later
key_taken field keys first found now left rest later place key is named to_take takes =
    let rows = takes.0 in
    let behind = rows_from field (place + 1) (drop (place + 1) keys) (drop (place + 1) rest) in
    ap (λ (l : List (List Row)). now ++ rows_from field (place + 1) (drop (place + 1) keys) l) (ap (drop (place + 1)) takes.2 ∙ drop_set rest place [])
    ∙ ap (λ (l : List Found). l ++ behind) takes.3
    ∙ append_assoc found (map (at_place place) rows) behind
    ∙ ap (λ (l : List Found). found ++ (l ++ behind)) (sym (ap (λ (t : Bool). if t then map (at_place place) rows else []) named))
    ∙ ap (λ (l : List Key). found ++ rows_from field place l (rows ∷ drop (place + 1) rest)) (sym (drop_get keys place key is))
    ∙ ap (λ (l : List (List Row)). found ++ rows_from field place (drop place keys) l) (sym (drop_get rest place rows takes.1))
    ∙ to_take

-- no rows of no key, and of keys without rows
none_from : (field : List ℕ) (place : ℕ) (keys : List Key) → rows_from field place keys [] ≡ []
none_from field place [] = refl
none_from field place (key ∷ keys) = refl

-- the rows from a key of another field on are those from the next key on
skipped : (field : List ℕ) (place : ℕ) (key : Key) (keys : List Key) (rest : List (List Row)) → pointwise nat_eq key.1 field ≡ false
    → rows_from field place (key ∷ keys) rest ≡ rows_from field (place + 1) keys (drop 1 rest)
skipped field place key keys [] other = sym (none_from field (place + 1) keys)
skipped field place key keys (rows ∷ rest) other = ap (λ (t : Bool). (if t then map (at_place place) rows else []) ++ rows_from field (place + 1) keys rest) other

-- a key of another field is left
pub key_left : (field : List ℕ) (keys : List Key) (first found : List Found) (left rest : List (List Row)) (place : ℕ) (key : Key)
    → slice_get keys place ≡ Some key → pointwise nat_eq key.1 field ≡ false
    → AreToTake field keys first left place found rest → AreToTake field keys first left (place + 1) found rest
key_left field keys first found left rest place key is other to_take =
    ap (λ (l : List (List Row)). found ++ rows_from field (place + 1) (drop (place + 1) keys) l) (sym (drop-drop 1 place rest))
    ∙ ap (λ (l : List Found). found ++ l) (sym (skipped field place key (drop (place + 1) keys) (drop place rest) other))
    ∙ ap (λ (l : List Key). found ++ rows_from field place l (drop place rest)) (sym (drop_get keys place key is))
    ∙ to_take

-- the next key is done with
pub field_taken : (field : List ℕ) (keys : List Key) (first found now : List Found) (left rest later : List (List Row)) (place : ℕ)
    → place < length keys → AreToTake field keys first left place found rest → TakesField field keys place found now rest later
    → AreToTake field keys first left (place + 1) now later
field_taken field keys first found now left rest later place within to_take takes =
    let some = get_within keys place within in
    by some.0 (pointwise nat_eq (some.0).1 field) refl some.1 (takes some.0 some.1)
  where
    get_within : (ks : List Key) (n : ℕ) → n < length ks → (key : Key) × (slice_get ks n ≡ Some key)
    get_within [] n low = absurd (omega (arith, low))
    get_within (k ∷ ks) zero low = (k, refl)
    get_within (k ∷ ks) (suc n) low = get_within ks n (omega (arith, low))

    by : (key : Key) (t : Bool) → pointwise nat_eq key.1 field ≡ t → slice_get keys place ≡ Some key
        → MatchBool t (TakesKey place found now rest later) ((now ≡ found) × (later ≡ rest)) → AreToTake field keys first left (place + 1) now later
    by key true e is h = key_taken field keys first found now left rest later place key is e to_take h
    by key false e is h =
        subst (λ (l : List Found). AreToTake field keys first left (place + 1) l later) (sym h.0)
        (subst (λ (l : List (List Row)). AreToTake field keys first left (place + 1) found l) (sym h.1)
        (key_left field keys first found left rest place key is e to_take))

-- at the end nothing is to be taken
pub all_taken : (field : List ℕ) (keys : List Key) (first found : List Found) (left rest : List (List Row)) (place : ℕ)
    → length keys ≤ place → AreToTake field keys first left place found rest → found ≡ first ++ rows_from field 0 keys left
all_taken field keys first found left rest place past to_take =
    sym (append-nil found)
    ∙ ap (λ (l : List Key). found ++ rows_from field place l (drop place rest)) (sym (drop_all place keys past))
    ∙ to_take

-- whether a key is one of the field decides what is taken
pub field_of : (field : List ℕ) (keys : List Key) (place : ℕ) (old new : List Found) (left rest : List (List Row)) (is_of : Bool)
    → ((key : Key) → slice_get keys place ≡ Some key → is_of ≡ pointwise nat_eq key.1 field)
    → MatchBool is_of (TakesKey place old new left rest) ((new ≡ old) × (rest ≡ left)) → TakesField field keys place old new left rest
field_of field keys place old new left rest is_of tells h =
    λ key is. subst (λ (t : Bool). MatchBool t (TakesKey place old new left rest) ((new ≡ old) × (rest ≡ left))) (tells key is) h

-- what is told of the rows, where the keys come one behind the other
pub told_next : (A : List (List Row) → List (List Row) → Type 0) (first second : Option (List (List Row))) (rest : List (List Row))
    → first ≡ Some rest → Told A first second → (later : List (List Row)) × (second ≡ Some later) × A rest later
told_next A None second rest is told = cc is
told_next A (Some now) None rest is told = absurd told
told_next A (Some now) (Some later) rest is told = (later, refl, subst (λ (l : List (List Row)). A l later) (some_one now rest is) told)

pub told_map : (A B : List (List Row) → List (List Row) → Type 0) (first second : Option (List (List Row)))
    → ((x y : List (List Row)) → A x y → B x y) → Told A first second → Told B first second
told_map A B None None f h = h
told_map A B None (Some y) f h = h
told_map A B (Some x) None f h = h
told_map A B (Some x) (Some y) f h = f x y h
