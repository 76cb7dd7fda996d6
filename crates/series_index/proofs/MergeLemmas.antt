-- Two lists that are picked from one list are merged.
use Rattle.std.proofs.Common.{◌≡◌, ℕ, ◌<◌, ◌≤◌, ◌||◌, Bool, true, false, nat_eq, List, [], ◌∷◌, ◌++◌, length, get_or, ◌⊎◌, inl, inr, if◌then◌else◌, refl, sym, ap, ◌∙◌, arith}
use Rattle.std.specs.List.{AllByRecursion, filter}
use Rattle.std.specs.List.Sorted.{IsStrictlySortedBy}
use Rattle.std.specs.Ordering.{nat_cmp}
use Rattle.std.specs.declared.cmp.Ordering.TheVariants.{Less}
use Rattle.std.proofs.lemmas.Bool.Decides.{nat_tests}
use Rattle.std.proofs.lemmas.List.{append_assoc, append-nil}
use Rattle.std.specs.Ordering.{is_le, is_lt}
use Rattle.std.proofs.lemmas.Cmp.{nat_cmp_total, tied_itself}
use Rattle.std.proofs.lemmas.Map.Keys.{le_from_is_le}
use Rattle.std.proofs.lemmas.Bool.{false≢true}
use Rattle.series_index.specs.Merging.{behind_id}

-- What is merged so far, and how the rest of the lists is picked: from the same list, of which what is merged are the first.
pub record HasMerged (all : List ℕ) (is also : ℕ → Bool) (merged left right : List ℕ) : Type 0 where
  pub rest : List ℕ
  pub ascending : IsStrictlySortedBy nat_cmp rest
  pub whole : merged ++ filter (λ id. is id || also id) rest ≡ filter (λ id. is id || also id) all
  pub left_is : left ≡ filter is rest
  pub right_is : right ≡ filter also rest

pub merged_none : (all : List ℕ) (is also : ℕ → Bool) (left right : List ℕ) → IsStrictlySortedBy nat_cmp all → left ≡ filter is all → right ≡ filter also all → HasMerged all is also [] left right
merged_none all is also left right ascending a b = record { rest = all; ascending = ascending; whole = refl; left_is = a; right_is = b }

-- the first id of the two lists, and what is picked behind it
pub record FirstOf (is also : ℕ → Bool) (rest left right : List ℕ) (id : ℕ) : Type 0 where
  pub behind : List ℕ
  pub ascending : IsStrictlySortedBy nat_cmp behind
  pub picked : filter (λ x. is x || also x) rest ≡ id ∷ filter (λ x. is x || also x) behind
  pub left_is : behind_id id left ≡ filter is behind
  pub right_is : behind_id id right ≡ filter also behind

less_is : (x y : ℕ) → nat_cmp x y ≡ Less → x < y
less_is x y is = by (le_from_is_le x y (ap is_le is))
  where
    apart : x ≡ y → ⊥
    apart e = false≢true (ap is_lt (sym (tied_itself nat_cmp_total x) ∙ ap (nat_cmp x) e ∙ is))

    by : x ≤ y → x < y
    by le = grind (arith, apart)

-- what is picked of ids above one is above it
above : (y : ℕ) (also : ℕ → Bool) (ys : List ℕ) (b : ℕ) (more_b : List ℕ) → AllByRecursion (λ z. nat_cmp y z ≡ Less) ys → b ∷ more_b ≡ filter also ys → y < b
above y also [] b more_b a e = absurd (omega (arith, ap length e))
above y also (z ∷ ys) b more_b a e = by (also z) e (λ e. above y also ys b more_b a.1 e)
  where
    by : (c : Bool) → b ∷ more_b ≡ (if c then z ∷ filter also ys else filter also ys) → (b ∷ more_b ≡ filter also ys → y < b) → y < b
    by true e more = let first : b ≡ z = cc (e) in omega (arith, first, less_is y z a.0)
    by false e more = more e

it_is : (id first : ℕ) (rest : List ℕ) → id ≡ first → behind_id id (first ∷ rest) ≡ rest
it_is id first rest e = ap (λ (b : Bool). if b then rest else first ∷ rest) test
  where
    test : nat_eq first id ≡ true
    test = grind (arith, nat_tests, e)

it_is_not : (id first : ℕ) (rest : List ℕ) → id < first → behind_id id (first ∷ rest) ≡ first ∷ rest
it_is_not id first rest less = ap (λ (b : Bool). if b then rest else first ∷ rest) test
  where
    test : nat_eq first id ≡ false
    test = grind (arith, nat_tests, less)

pub first_picked : (is also : ℕ → Bool) (rest : List ℕ) (a b : ℕ) (more_a more_b : List ℕ) (id : ℕ) → IsStrictlySortedBy nat_cmp rest → a ∷ more_a ≡ filter is rest → b ∷ more_b ≡ filter also rest → id ≤ a → id ≤ b → (id ≡ a) ⊎ (id ≡ b)
    → FirstOf is also rest (a ∷ more_a) (b ∷ more_b) id
unfolding IsStrictlySortedBy
first_picked is also [] a b more_a more_b id sorted e f le le' one = absurd (omega (arith, ap length e))
first_picked is also (y ∷ ys) a b more_a more_b id sorted e f le le' one = by (is y) (also y) refl refl e f (λ e f. first_picked is also ys a b more_a more_b id sorted.1 e f le le' one)
  where
    picks : (c d : Bool) → is y ≡ c → also y ≡ d → filter (λ x. is x || also x) (y ∷ ys) ≡ (if c || d then y ∷ filter (λ x. is x || also x) ys else filter (λ x. is x || also x) ys)
    picks c d g h =
        ap (λ (t : Bool). if t || also y then y ∷ filter (λ x. is x || also x) ys else filter (λ x. is x || also x) ys) g
        ∙ ap (λ (t : Bool). if c || t then y ∷ filter (λ x. is x || also x) ys else filter (λ x. is x || also x) ys) h

    by : (c d : Bool) → is y ≡ c → also y ≡ d → a ∷ more_a ≡ (if c then y ∷ filter is ys else filter is ys) → b ∷ more_b ≡ (if d then y ∷ filter also ys else filter also ys)
        → (a ∷ more_a ≡ filter is ys → b ∷ more_b ≡ filter also ys → FirstOf is also ys (a ∷ more_a) (b ∷ more_b) id) → FirstOf is also (y ∷ ys) (a ∷ more_a) (b ∷ more_b) id
    by true true g h e f more =
        let first : a ≡ y = cc (e) in
        let second : b ≡ y = cc (f) in
        let same : id ≡ y = elim one [
          | inl o ↦ o ∙ first
          | inr o ↦ o ∙ second
        ] in
        record {
          behind = ys;
          ascending = sorted.1;
          picked = picks true true g h ∙ ap (λ (n : ℕ). n ∷ filter (λ x. is x || also x) ys) (sym same);
          left_is = it_is id a more_a (same ∙ sym first) ∙ cc (e);
          right_is = it_is id b more_b (same ∙ sym second) ∙ cc (f);
        }
    by true false g h e f more =
        let first : a ≡ y = cc (e) in
        let high : y < b = above y also ys b more_b sorted.0 f in
        let same : id ≡ y = elim one [
          | inl o ↦ o ∙ first
          | inr o ↦ absurd (omega (arith, o, le, first, high))
        ] in
        record {
          behind = ys;
          ascending = sorted.1;
          picked = picks true false g h ∙ ap (λ (n : ℕ). n ∷ filter (λ x. is x || also x) ys) (sym same);
          left_is = it_is id a more_a (same ∙ sym first) ∙ cc (e);
          right_is = it_is_not id b more_b (omega (arith, same, high)) ∙ f;
        }
    by false true g h e f more =
        let second : b ≡ y = cc (f) in
        let high : y < a = above y is ys a more_a sorted.0 e in
        let same : id ≡ y = elim one [
          | inl o ↦ absurd (omega (arith, o, le', second, high))
          | inr o ↦ o ∙ second
        ] in
        record {
          behind = ys;
          ascending = sorted.1;
          picked = picks false true g h ∙ ap (λ (n : ℕ). n ∷ filter (λ x. is x || also x) ys) (sym same);
          left_is = it_is_not id a more_a (omega (arith, same, high)) ∙ e;
          right_is = it_is id b more_b (same ∙ sym second) ∙ cc (f);
        }
    by false false g h e f more =
        let next = more e f in
        record {
          behind = next.behind;
          ascending = next.ascending;
          picked = picks false false g h ∙ next.picked;
          left_is = next.left_is;
          right_is = next.right_is;
        }

-- the first id of both is merged
pub merged_one : (all : List ℕ) (is also : ℕ → Bool) (merged left right : List ℕ) (a b id : ℕ) (more_a more_b : List ℕ) → HasMerged all is also merged left right → left ≡ a ∷ more_a → right ≡ b ∷ more_b → id ≤ a → id ≤ b → (id ≡ a) ⊎ (id ≡ b)
    → HasMerged all is also (merged ++ id ∷ []) (behind_id id left) (behind_id id right)
merged_one all is also merged left right a b id more_a more_b had l r le le' one =
    let first = first_picked is also had.rest a b more_a more_b id had.ascending (sym l ∙ had.left_is) (sym r ∙ had.right_is) le le' one in
    record {
      rest = first.behind;
      ascending = first.ascending;
      whole = append_assoc merged (id ∷ []) (filter (λ x. is x || also x) first.behind) ∙ ap (λ (l : List ℕ). merged ++ l) (sym first.picked) ∙ had.whole;
      left_is = ap (behind_id id) l ∙ first.left_is;
      right_is = ap (behind_id id) r ∙ first.right_is;
    }

-- where one test picks none, the other picks all
one_picks : (is also : ℕ → Bool) (rest : List ℕ) → filter is rest ≡ [] → filter (λ x. is x || also x) rest ≡ filter also rest
one_picks is also [] e = refl
one_picks is also (y ∷ ys) e = by (is y) refl e (λ e. one_picks is also ys e)
  where
    by : (c : Bool) → is y ≡ c → (if c then y ∷ filter is ys else filter is ys) ≡ [] → (filter is ys ≡ [] → filter (λ x. is x || also x) ys ≡ filter also ys) → filter (λ x. is x || also x) (y ∷ ys) ≡ filter also (y ∷ ys)
    by true g e more = absurd (omega (arith, ap length e))
    by false g e more =
        ap (λ (t : Bool). if t || also y then y ∷ filter (λ x. is x || also x) ys else filter (λ x. is x || also x) ys) g
        ∙ ap (λ (l : List ℕ). if also y then y ∷ l else l) (more e)

other_picks : (is also : ℕ → Bool) (rest : List ℕ) → filter also rest ≡ [] → filter (λ x. is x || also x) rest ≡ filter is rest
other_picks is also [] e = refl
other_picks is also (y ∷ ys) e = by (also y) (is y) refl refl e (λ e. other_picks is also ys e)
  where
    by : (c d : Bool) → also y ≡ c → is y ≡ d → (if c then y ∷ filter also ys else filter also ys) ≡ [] → (filter also ys ≡ [] → filter (λ x. is x || also x) ys ≡ filter is ys) → filter (λ x. is x || also x) (y ∷ ys) ≡ (if is y then y ∷ filter is ys else filter is ys)
    by true d g h e more = absurd (omega (arith, ap length e))
    by false true g h e more =
        ap (λ (t : Bool). if t || also y then y ∷ filter (λ x. is x || also x) ys else filter (λ x. is x || also x) ys) h ∙ ap (λ (l : List ℕ). y ∷ l) (more e)
        ∙ ap (λ (t : Bool). if t then y ∷ filter is ys else filter is ys) (sym h)
    by false false g h e more =
        ap (λ (t : Bool). if t || also y then y ∷ filter (λ x. is x || also x) ys else filter (λ x. is x || also x) ys) h
        ∙ ap (λ (t : Bool). if t then y ∷ filter (λ x. is x || also x) ys else filter (λ x. is x || also x) ys) g ∙ more e ∙ ap (λ (t : Bool). if t then y ∷ filter is ys else filter is ys) (sym h)

-- one of the lists is merged whole, and the rest of the other stands behind it
pub merged_all : (all : List ℕ) (is also : ℕ → Bool) (merged left right : List ℕ) → HasMerged all is also merged left right → (left ≡ []) ⊎ (right ≡ []) → (merged ++ left) ++ right ≡ filter (λ id. is id || also id) all
merged_all all is also merged left right had (inl none) =
    ap (λ (l : List ℕ). (merged ++ l) ++ right) none ∙ ap (λ (l : List ℕ). l ++ right) (append-nil merged) ∙ ap (λ (l : List ℕ). merged ++ l) (had.right_is ∙ sym (one_picks is also had.rest (sym had.left_is ∙ none))) ∙ had.whole
merged_all all is also merged left right had (inr none) =
    ap (λ (l : List ℕ). (merged ++ left) ++ l) none ∙ append-nil (merged ++ left) ∙ ap (λ (l : List ℕ). merged ++ l) (had.left_is ∙ sym (other_picks is also had.rest (sym had.right_is ∙ none))) ∙ had.whole

-- a list with an item begins with it
pub first_item : (list : List ℕ) → 0 < length list → (rest : List ℕ) × (list ≡ get_or list 0 0 ∷ rest)
first_item [] some = absurd (omega (arith, some))
first_item (x ∷ xs) some = (xs, refl)

pub no_items : (list : List ℕ) → length list ≡ 0 → list ≡ []
no_items [] e = refl
no_items (x ∷ xs) e = absurd (omega (arith, e))
