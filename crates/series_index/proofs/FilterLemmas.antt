-- Lists that are picked from one list.
use Rattle.std.proofs.Common.{◌≡◌, ℕ, suc, ◌<◌, ◌≤◌, ◌&&◌, ◌||◌, Bool, true, false, not, nat_eq, List, [], ◌∷◌, length, get_or, Result, Ok, Err, IfOk, ◌⊎◌, inl, inr, if◌then◌else◌, refl, sym, ap, ◌∙◌, subst, arith}
use Rattle.std.specs.List.{AllByRecursion, filter}
use Rattle.std.specs.List.Sorted.{IsNonDecreasing, IsBinarySearchResult, IsStrictlySortedBy}
use Rattle.std.specs.Ordering.{nat_cmp}
use Rattle.std.specs.declared.vec.Vec.{Vec}
use Rattle.std.specs.declared.alloc.Global.{Global}
use Rattle.std.specs.declared.alloc.AllocError.{AllocError}
use Rattle.std.proofs.lemmas.Bool.{cases_lt}
use Rattle.std.proofs.lemmas.Bool.Decides.{nat_tests}
use Rattle.std.proofs.lemmas.List.Sorted.{searched}
use Rattle.std.proofs.lemmas.List.Kept.{IsNonDecreasingBy-filter}
use Rattle.std.proofs.lemmas.Map.Keys.{non_decreasing_from_sorted}
use Rattle.series_index.specs.Matching.{has}

-- ---- an id that a search doesn't find

is_not : (a b : ℕ) → (b ≡ a → ⊥) → nat_eq a b ≡ false
is_not a b apart = grind (arith, nat_tests, apart)

pub none_at : (ids : List ℕ) (id : ℕ) → ((k : ℕ) → k < length ids → get_or ids k 0 ≡ id → ⊥) → has ids id ≡ false
none_at [] id f = refl
none_at (x ∷ xs) id f =
    ap (λ (b : Bool). b || has xs id) (is_not id x (λ e. f 0 (omega arith) e)) ∙ none_at xs id (λ k less e. f (suc k) (omega (arith, less)) e)

pub not_found : (ids : List ℕ) (id i : ℕ) → IsNonDecreasing ids → IsBinarySearchResult (λ y. nat_cmp y id) ids (Err i) → has ids id ≡ false
not_found ids id i sorted result =
    let found = searched ids id (Err i) result (λ a b le less. sorted a b 0 le less) in
    none_at ids id (λ k less e. by k less e (found.1 k) (found.2 k) (cases_lt k i))
  where
    by : (k : ℕ) → k < length ids → get_or ids k 0 ≡ id → (k < i → get_or ids k 0 < id) → (i ≤ k → k < length ids → id < get_or ids k 0) → (k < i) ⊎ (i ≤ k) → ⊥
    by k less e low high (inl before) = omega (arith, low before, e)
    by k less e low high (inr behind) = omega (arith, high behind less, e)

-- ---- picking twice

pub all_map : {X : Type 0} (P Q : X → Type 0) (xs : List X) → ((x : X) → P x → Q x) → AllByRecursion P xs → AllByRecursion Q xs
all_map P Q [] f a = tt
all_map P Q (x ∷ xs) f a = (f x a.0, all_map P Q xs f a.1)

filter_head : {X : Type 0} (f g : X → Bool) (x : X) (xs : List X) → f x ≡ g x → filter f xs ≡ filter g xs → filter f (x ∷ xs) ≡ filter g (x ∷ xs)
filter_head {X} f g x xs here rest =
    ap (λ (b : Bool). if b then x ∷ filter f xs else filter f xs) here ∙ ap (λ (l : List X). if g x then x ∷ l else l) rest

pub filter_same : {X : Type 0} (f g : X → Bool) (xs : List X) → AllByRecursion (λ x. f x ≡ g x) xs → filter f xs ≡ filter g xs
filter_same f g [] a = refl
filter_same f g (x ∷ xs) a = filter_head f g x xs a.0 (filter_same f g xs a.1)

pub filter_filter : {X : Type 0} (p f : X → Bool) (xs : List X) → filter f (filter p xs) ≡ filter (λ x. p x && f x) xs
filter_filter p f [] = refl
filter_filter {X} p f (x ∷ xs) = by (p x) (filter_filter p f xs)
  where
    by : (a : Bool) → filter f (filter p xs) ≡ filter (λ x. p x && f x) xs
        → filter f (if a then x ∷ filter p xs else filter p xs) ≡ (if a && f x then x ∷ filter (λ x. p x && f x) xs else filter (λ x. p x && f x) xs)
    by true rest = ap (λ (l : List X). if f x then x ∷ l else l) rest
    by false rest = rest

-- ---- which ids a picked list has

pub all_have : (ids : List ℕ) → AllByRecursion (λ x. has ids x ≡ true) ids
all_have [] = tt
all_have (y ∷ ys) = (ap (λ (b : Bool). b || has ys y) (itself y), all_map (λ x. has ys x ≡ true) (λ x. has (y ∷ ys) x ≡ true) ys (λ x e. ap (λ (b : Bool). nat_eq x y || b) e ∙ or_true (nat_eq x y)) (all_have ys))
  where
    itself : (y : ℕ) → nat_eq y y ≡ true
    itself y = grind (arith, nat_tests)

    or_true : (b : Bool) → b || true ≡ true
    or_true true = refl
    or_true false = refl

pub has_picked : (q : ℕ → Bool) (ids : List ℕ) (x : ℕ) → has (filter q ids) x ≡ has ids x && q x
has_picked q [] x = refl
has_picked q (y ∷ ys) x = by (nat_eq x y) (q y) refl refl (has_picked q ys x)
  where
    and_false : (b : Bool) → b && false ≡ false
    and_false true = refl
    and_false false = refl

    is_one : nat_eq x y ≡ true → x ≡ y
    is_one e = grind (arith, nat_tests, e)

    by : (a b : Bool) → nat_eq x y ≡ a → q y ≡ b → has (filter q ys) x ≡ has ys x && q x → has (if b then y ∷ filter q ys else filter q ys) x ≡ (a || has ys x) && q x
    by true true e f rest = ap (λ (c : Bool). c || has (filter q ys) x) e ∙ sym (ap q (is_one e) ∙ f)
    by true false e f rest =
        let none : q x ≡ false = ap q (is_one e) ∙ f in
        rest ∙ ap (λ (c : Bool). has ys x && c) none ∙ and_false (has ys x) ∙ sym none
    by false true e f rest = ap (λ (c : Bool). c || has (filter q ys) x) e ∙ rest
    by false false e f rest = rest

-- those of picked ids that another test picks too, by their lists
pub among_picked : (p q : ℕ → Bool) (ids : List ℕ) → filter (has (filter q ids)) (filter p ids) ≡ filter (λ x. p x && q x) ids
among_picked p q ids =
    filter_filter p (has (filter q ids)) ids
    ∙ filter_same (λ x. p x && has (filter q ids) x) (λ x. p x && q x) ids
    (all_map (λ x. has ids x ≡ true) (λ x. p x && has (filter q ids) x ≡ p x && q x) ids (λ x e. ap (λ (b : Bool). p x && b) (has_picked q ids x ∙ ap (λ (b : Bool). b && q x) e)) (all_have ids))

pub without_picked : (q : ℕ → Bool) (ids : List ℕ) → filter (λ x. not (has (filter q ids) x)) ids ≡ filter (λ x. not (q x)) ids
without_picked q ids =
    filter_same (λ x. not (has (filter q ids) x)) (λ x. not (q x)) ids
    (all_map (λ x. has ids x ≡ true) (λ x. not (has (filter q ids) x) ≡ not (q x)) ids (λ x e. ap not (has_picked q ids x ∙ ap (λ (b : Bool). b && q x) e)) (all_have ids))

and_turned : (a b : Bool) → a && b ≡ b && a
and_turned true true = refl
and_turned true false = refl
and_turned false true = refl
and_turned false false = refl

pub all_any : {X : Type 0} (P : X → Type 0) (xs : List X) → ((x : X) → P x) → AllByRecursion P xs
all_any P [] f = tt
all_any P (x ∷ xs) f = (f x, all_any P xs f)

pub among_turned : (p q : ℕ → Bool) (ids : List ℕ) → filter (has (filter p ids)) (filter q ids) ≡ filter (λ x. p x && q x) ids
among_turned p q ids =
    among_picked q p ids ∙ filter_same (λ x. q x && p x) (λ x. p x && q x) ids (all_any (λ x. q x && p x ≡ p x && q x) ids (λ x. and_turned (q x) (p x)))

-- what `both` answers, from either list
pub both_of : (r : Result (Vec ℕ Global) AllocError) (first second : List ℕ) → IfOk r (λ found. found.items ≡ filter (has second) first)
    → IfOk r (λ ids. (all : List ℕ) (is also : ℕ → Bool) → first ≡ filter is all → second ≡ filter also all → ids.items ≡ filter (λ id. is id && also id) all)
both_of (Ok v) first second e = λ all is also a b. e ∙ ap (λ (l : List ℕ). filter (has l) first) b ∙ ap (filter (has (filter also all))) a ∙ among_picked is also all
both_of (Err x) first second e = tt

pub both_turned : (r : Result (Vec ℕ Global) AllocError) (first second : List ℕ) → IfOk r (λ found. found.items ≡ filter (has first) second)
    → IfOk r (λ ids. (all : List ℕ) (is also : ℕ → Bool) → first ≡ filter is all → second ≡ filter also all → ids.items ≡ filter (λ id. is id && also id) all)
both_turned (Ok v) first second e = λ all is also a b. e ∙ ap (λ (l : List ℕ). filter (has l) second) a ∙ ap (filter (has (filter is all))) b ∙ among_turned is also all
both_turned (Err x) first second e = tt

-- ---- lists that are picked ascend

pub picked_ascend : (all : List ℕ) (is : ℕ → Bool) (ids : List ℕ) → IsStrictlySortedBy nat_cmp all → ids ≡ filter is all → IsNonDecreasing ids
picked_ascend all is ids up e = subst IsNonDecreasing (sym e) (IsNonDecreasingBy-filter (λ x. x) is all (non_decreasing_from_sorted all up))
