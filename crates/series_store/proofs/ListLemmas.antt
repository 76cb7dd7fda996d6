-- Lists of keys: which id a key has, and that none stands twice.
use Rattle.std.proofs.Common.{◌≡◌, ℕ, zero, suc, ◌<◌, Bool, true, false, ◌||◌, List, [], ◌∷◌, ◌++◌, length, get_or, nat_eq, position, Some, refl, sym, ap, ◌∙◌, arith}
use Rattle.std.specs.List.{AllByRecursion, IsDistinct, list_any}
use Rattle.std.specs.Cmp.Lexicographic.{pointwise}
use Rattle.std.proofs.lemmas.Bool.{false≢true}
use Rattle.std.proofs.lemmas.Slice.Eq.{bytes_eq-Decides}
use Rattle.std.proofs.lemmas.Option.{slice_get_read, slice_get_within, get_or_from_slice_get}
use Rattle.std.proofs.lemmas.List.Quantifiers.{position-Some}
use Rattle.std.proofs.lemmas.List.Folds.{list_any_at}
use Rattle.series_store.specs.Lists.{HasId, HasNoId}

-- ---- what holds of each

pub all_append : {X : Type 0} (P : X → Type 0) (xs ys : List X) → AllByRecursion P xs → AllByRecursion P ys → AllByRecursion P (xs ++ ys)
all_append P [] ys a b = b
all_append P (x ∷ xs) ys a b = (a.0, all_append P xs ys a.1 b)

pub all_left : {X : Type 0} (P : X → Type 0) (xs ys : List X) → AllByRecursion P (xs ++ ys) → AllByRecursion P xs
all_left P [] ys a = tt
all_left P (x ∷ xs) ys a = (a.0, all_left P xs ys a.1)

pub all_right : {X : Type 0} (P : X → Type 0) (xs ys : List X) → AllByRecursion P (xs ++ ys) → AllByRecursion P ys
all_right P [] ys a = a
all_right P (x ∷ xs) ys a = all_right P xs ys a.1

all_map : {X : Type 0} (P Q : X → Type 0) (xs : List X) → ((x : X) → P x → Q x) → AllByRecursion P xs → AllByRecursion Q xs
all_map P Q [] f a = tt
all_map P Q (x ∷ xs) f a = (f x a.0, all_map P Q xs f a.1)

pub all_at : {X : Type 0} (P : X → Type 0) (xs : List X) (i : ℕ) (d : X) → AllByRecursion P xs → i < length xs → P (get_or xs i d)
all_at P [] i d a within = absurd (omega (arith, within))
all_at P (x ∷ xs) zero d a within = a.0
all_at P (x ∷ xs) (suc i) d a within = all_at P xs i d a.1 (omega (arith, within))

-- ---- equal keys

pub equal_keys : (xs ys : List ℕ) → pointwise nat_eq xs ys ≡ true → xs ≡ ys
equal_keys xs ys e = (bytes_eq-Decides xs ys).0 e

pub keys_equal : (xs ys : List ℕ) → xs ≡ ys → pointwise nat_eq xs ys ≡ true
keys_equal xs ys e = (bytes_eq-Decides xs ys).1 e

other_key : (xs ys : List ℕ) (b : Bool) → pointwise nat_eq xs ys ≡ b → (xs ≡ ys → ⊥) → b ≡ false
other_key xs ys false e none = refl
other_key xs ys true e none = absurd (none (equal_keys xs ys e))

-- ---- ids

pub id_of : (keys : List (List ℕ)) (key : List ℕ) (place : ℕ) → position (pointwise nat_eq key) keys ≡ Some place → HasId keys key place
id_of keys key place h =
    let at = position-Some (pointwise nat_eq key) keys place key h in
    slice_get_read keys (length keys) place key refl at.0 (equal_keys key (get_or keys place key) at.1)

pub there : (keys : List (List ℕ)) (key : List ℕ) (id : ℕ) → HasId keys key id → list_any (pointwise nat_eq key) keys ≡ true
there keys key id h =
    list_any_at (pointwise nat_eq key) keys id key (slice_get_within keys id key h) (keys_equal key (get_or keys id key) (sym (get_or_from_slice_get keys id key key h)))

pub no_id : (keys : List (List ℕ)) (key : List ℕ) → list_any (pointwise nat_eq key) keys ≡ false → HasNoId keys key
no_id keys key none id h = false≢true (sym none ∙ there keys key id h)

pub none_there : (keys : List (List ℕ)) (key : List ℕ) → HasNoId keys key → list_any (pointwise nat_eq key) keys ≡ false
none_there [] key none = refl
none_there (k ∷ ks) key none =
    let here : pointwise nat_eq key k ≡ false = other_key key k (pointwise nat_eq key k) refl (λ is. none 0 (ap (λ (x : List ℕ). Some x) (sym is))) in
    ap (λ (b : Bool). b || list_any (pointwise nat_eq key) ks) here ∙ none_there ks key (λ id h. none (suc id) h)

head_is : (k key : List ℕ) (ks : List (List ℕ)) → HasId (k ∷ ks) key 0 → k ≡ key
head_is k key ks h = cc h

apart : (k key : List ℕ) (ks : List (List ℕ)) (id : ℕ) → AllByRecursion (λ y. pointwise nat_eq k y ≡ false) ks → HasId ks key id → k ≡ key → ⊥
apart k key ks id all h is =
    let at = all_at (λ y. pointwise nat_eq k y ≡ false) ks id key all (slice_get_within ks id key h) in
    false≢true (sym at ∙ keys_equal k (get_or ks id key) (is ∙ sym (get_or_from_slice_get ks id key key h)))

-- keys that differ have one id each
pub same_id : (keys : List (List ℕ)) (key : List ℕ) (a b : ℕ) → IsDistinct (pointwise nat_eq) keys → HasId keys key a → HasId keys key b → a ≡ b
unfolding IsDistinct
same_id [] key a b d x y = absurd (cc x)
same_id (k ∷ ks) key zero zero d x y = refl
same_id (k ∷ ks) key zero (suc b) d x y = absurd (apart k key ks b d.0 y (head_is k key ks x))
same_id (k ∷ ks) key (suc a) zero d x y = absurd (apart k key ks a d.0 x (head_is k key ks y))
same_id (k ∷ ks) key (suc a) (suc b) d x y = ap suc (same_id ks key a b d.1 x y)

-- ---- more keys

pub no_append : (xs ys : List (List ℕ)) (key : List ℕ) → HasNoId xs key → HasNoId ys key → HasNoId (xs ++ ys) key
no_append [] ys key a b id h = b id h
no_append (x ∷ xs) ys key a b zero h = a zero h
no_append (x ∷ xs) ys key a b (suc id) h = no_append xs ys key (λ i g. a (suc i) g) b id h

-- keys that aren't held, and differ from one more, aren't held with it
pub fresh_more : (held : List (List ℕ)) (key : List ℕ) (more : List (List ℕ)) → AllByRecursion (HasNoId held) more → AllByRecursion (λ y. pointwise nat_eq key y ≡ false) more → AllByRecursion (HasNoId (held ++ key ∷ [])) more
fresh_more held key [] fresh apart = tt
fresh_more held key (y ∷ more) fresh apart = (no_append held (key ∷ []) y fresh.0 (not_one key y apart.0), fresh_more held key more fresh.1 apart.1)
  where
    not_one : (key y : List ℕ) → pointwise nat_eq key y ≡ false → HasNoId (key ∷ []) y
    not_one key y other zero h = false≢true (sym other ∙ keys_equal key y (head_is key y [] h))
    not_one key y other (suc id) h = cc h

pub distinct_parts : (key : List ℕ) (more : List (List ℕ)) → IsDistinct (pointwise nat_eq) (key ∷ more) → AllByRecursion (λ y. pointwise nat_eq key y ≡ false) more × IsDistinct (pointwise nat_eq) more
unfolding IsDistinct
distinct_parts key more d = (d.0, d.1)

pub distinct_append : (held more : List (List ℕ)) → IsDistinct (pointwise nat_eq) held → IsDistinct (pointwise nat_eq) more → AllByRecursion (HasNoId held) more → IsDistinct (pointwise nat_eq) (held ++ more)
unfolding IsDistinct
distinct_append [] more d e fresh = e
distinct_append (k ∷ ks) more d e fresh = (
  all_append (λ y. pointwise nat_eq k y ≡ false) ks more d.0
      (all_map (HasNoId (k ∷ ks)) (λ y. pointwise nat_eq k y ≡ false) more (λ y none. other_key k y (pointwise nat_eq k y) refl (λ is. none 0 (ap (λ (x : List ℕ). Some x) is))) fresh),
  distinct_append ks more d.1 e (all_map (HasNoId (k ∷ ks)) (HasNoId ks) more (λ y none id h. none (suc id) h) fresh),
)

pub distinct_left : (xs ys : List (List ℕ)) → IsDistinct (pointwise nat_eq) (xs ++ ys) → IsDistinct (pointwise nat_eq) xs
unfolding IsDistinct
distinct_left [] ys d = tt
distinct_left (x ∷ xs) ys d = (all_left (λ y. pointwise nat_eq x y ≡ false) xs ys d.0, distinct_left xs ys d.1)

absent : (xs : List (List ℕ)) (key : List ℕ) (ys : List (List ℕ)) → IsDistinct (pointwise nat_eq) (xs ++ key ∷ ys) → list_any (pointwise nat_eq key) xs ≡ false
unfolding IsDistinct
absent [] key ys d = refl
absent (x ∷ xs) key ys d =
    let apart = all_right (λ y. pointwise nat_eq x y ≡ false) xs (key ∷ ys) d.0 in
    let here : pointwise nat_eq key x ≡ false = other_key key x (pointwise nat_eq key x) refl (λ is. false≢true (sym apart.0 ∙ keys_equal x key (sym is))) in
    ap (λ (b : Bool). b || list_any (pointwise nat_eq key) xs) here ∙ absent xs key ys d.1

-- a key that is among those before it isn't one of different ones
pub not_twice : (xs : List (List ℕ)) (key : List ℕ) (ys : List (List ℕ)) → list_any (pointwise nat_eq key) xs ≡ true → IsDistinct (pointwise nat_eq) (xs ++ key ∷ ys) → ⊥
not_twice xs key ys any d = false≢true (sym (absent xs key ys d) ∙ any)
