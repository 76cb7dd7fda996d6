-- Points that ascend: parts of them, one more, and those between two times.
use Rattle.std.proofs.Common.{◌≡◌, ℕ, zero, suc, ◌+◌, ◌-◌, ◌<◌, ◌≤◌, ℤ, ◌≤ℤ◌, ◌<ℤ◌, Bool, true, false, cond, not, List, [], ◌∷◌, ◌++◌, length, take, drop, get_or, filter, Option, Some, None, IfSome, IfNone, slice_get, refl, sym, ap, ◌∙◌, subst, arith}
use Rattle.std.specs.List.{AllByRecursion}
use Rattle.std.specs.List.Sorted.{IsPartitionedBy}
use Rattle.std.specs.Int.Signed.{lt_z, le_z}
use Rattle.std.proofs.lemmas.Int.{ints}
use Rattle.std.proofs.lemmas.List.{take-append-drop, take_more, append-nil, drop-take}
use Rattle.std.proofs.lemmas.List.Elements.{filter-append}
use Rattle.tombstones.proofs.RangeLemmas.{all_at, all-append, all-front, all-back, all-weaker}
use Rattle.point_model.specs.Rows.{Row}
use Rattle.point_cache.specs.Cached.{AreAscending, is_within, rows_within, rows_outside}
use Rattle.point_cache.specs.Sorted.{is_later, AreRising}

-- each point of the first list is before each of the second
abbrev pub Before : List Row → List Row → Type 0
Before xs ys = AllByRecursion (λ x. AllByRecursion (λ y. x.0 <ℤ y.0) ys) xs

pub ascending-front : (xs ys : List Row) → AreAscending (xs ++ ys) → AreAscending xs
ascending-front [] ys a = tt
ascending-front (x ∷ xs) ys a = (all-front (λ y. x.0 <ℤ y.0) xs ys a.0, ascending-front xs ys a.1)

pub ascending-back : (xs ys : List Row) → AreAscending (xs ++ ys) → AreAscending ys
ascending-back [] ys a = a
ascending-back (x ∷ xs) ys a = ascending-back xs ys a.1

pub ascending-append : (xs ys : List Row) → AreAscending xs → AreAscending ys → Before xs ys → AreAscending (xs ++ ys)
ascending-append [] ys a b c = b
ascending-append (x ∷ xs) ys a b c = (all-append (λ y. x.0 <ℤ y.0) xs ys a.0 c.0, ascending-append xs ys a.1 b c.1)

pub ascending-take : (n : ℕ) (xs : List Row) → AreAscending xs → AreAscending (take n xs)
ascending-take n xs a = ascending-front (take n xs) (drop n xs) (subst AreAscending (sym (take-append-drop n xs)) a)

-- those before a time are before those that aren't
pub before_time : (xs ys : List Row) (t : ℤ) → AllByRecursion (λ x. x.0 <ℤ t) xs → AllByRecursion (λ y. t ≤ℤ y.0) ys → Before xs ys
before_time xs ys t front back =
    all-weaker (λ x. x.0 <ℤ t) (λ x. AllByRecursion (λ y. x.0 <ℤ y.0) ys)
    (λ x low. all-weaker (λ y. t ≤ℤ y.0) (λ y. x.0 <ℤ y.0) (λ y up. omega (arith, ints)) ys back) xs front

pub ascending-push : (xs : List Row) (x : Row) → AreAscending xs → AllByRecursion (λ r. r.0 <ℤ x.0) xs → AreAscending (xs ++ x ∷ [])
ascending-push xs x a b = ascending-append xs (x ∷ []) a (tt, tt) (all-weaker (λ r. r.0 <ℤ x.0) (λ r. AllByRecursion (λ y. r.0 <ℤ y.0) (x ∷ [])) (λ r low. (low, tt)) xs b)

rises : (xs : List Row) (i j : ℕ) (d : Row) → i ≤ j → j < length xs → AreAscending xs → (get_or xs i d).0 ≤ℤ (get_or xs j d).0
rises [] i j d g h a = absurd (omega arith)
rises (x ∷ xs) zero zero d g h a = omega (arith, ints)
rises (x ∷ xs) (suc i) zero d g h a = absurd (omega arith)
rises (x ∷ xs) zero (suc j) d g h a = let far = all_at (λ y. x.0 <ℤ y.0) xs j d (omega arith) a.0 in omega (arith, ints)
rises (x ∷ xs) (suc i) (suc j) d g h a = rises xs i j d (omega arith) (omega arith) a.1

pub parted_before : (xs : List Row) (t : ℤ) → AreAscending xs → IsPartitionedBy (λ r. lt_z r.0 t) xs
parted_before xs t a i j d g h e = let up = rises xs i j d g h a in grind (arith, ints)

pub parted_up_to : (xs : List Row) (t : ℤ) → AreAscending xs → IsPartitionedBy (λ r. le_z r.0 t) xs
parted_up_to xs t a i j d g h e = let up = rises xs i j d g h a in grind (arith, ints)

greatest_at : (xs : List Row) (k : ℕ) (x : Row) → slice_get xs k ≡ Some x → length xs ≡ suc k → AreAscending xs → AllByRecursion (λ r. r.0 ≤ℤ x.0) xs
greatest_at [] k x e n a = tt
greatest_at (r ∷ []) zero x e n a = let same : r ≡ x = cc in let low : r.0 ≡ x.0 = ap (λ (z : Row). z.0) same in (omega (arith, ints), tt)
greatest_at (r ∷ []) (suc k) x e n a = absurd (omega arith)
greatest_at (r ∷ s ∷ xs) zero x e n a = absurd (omega arith)
greatest_at (r ∷ s ∷ xs) (suc k) x e n a =
    let rest = greatest_at (s ∷ xs) k x e (omega arith) a.1 in
    let low = a.0.0 in
    let up = rest.0 in
    (omega (arith, ints), rest)

-- the last point is the greatest
pub greatest : (xs : List Row) (x : Row) → slice_get xs (length xs - 1) ≡ Some x → AreAscending xs → AllByRecursion (λ r. r.0 ≤ℤ x.0) xs
greatest [] x e a = tt
greatest (r ∷ xs) x e a = greatest_at (r ∷ xs) (length xs) x (subst (λ (k : ℕ). slice_get (r ∷ xs) k ≡ Some x) (omega arith) e) refl a

-- ---- a list that goes on in order

-- no point is behind the last time, where there is one
abbrev pub EndsBy : Option ℤ → List Row → Type 0
EndsBy None xs = xs ≡ []
EndsBy (Some last) xs = AllByRecursion (λ r. r.0 ≤ℤ last) xs

pub ends_by : (last : Option ℤ) (xs : List Row) → IfSome last (λ t. AllByRecursion (λ r. r.0 ≤ℤ t) xs) → IfNone last (xs ≡ []) → EndsBy last xs
ends_by None xs some none = none
ends_by (Some last) xs some none = some

pub goes_on : (last : Option ℤ) (xs : List Row) (x : Row) → AreAscending xs → EndsBy last xs → is_later last x.0 ≡ true → AreAscending (xs ++ x ∷ []) × EndsBy (Some x.0) (xs ++ x ∷ [])
goes_on None xs x a e later = subst (λ (ys : List Row). AreAscending (ys ++ x ∷ []) × EndsBy (Some x.0) (ys ++ x ∷ [])) (sym e) ((tt, tt), (omega (arith, ints), tt))
goes_on (Some last) xs x a e later = (
  ascending-push xs x a (all-weaker (λ r. r.0 ≤ℤ last) (λ r. r.0 <ℤ x.0) (λ r low. grind (arith, ints)) xs e),
  all-append (λ r. r.0 ≤ℤ x.0) xs (x ∷ []) (all-weaker (λ r. r.0 ≤ℤ last) (λ r. r.0 ≤ℤ x.0) (λ r low. grind (arith, ints)) xs e) (omega (arith, ints), tt),
)

-- ---- between two times

pub filter-all : {X : Type 0} (p : X → Bool) (xs : List X) → AllByRecursion (λ x. p x ≡ true) xs → filter p xs ≡ xs
filter-all p [] a = refl
filter-all p (x ∷ xs) a = rw a.0 (ap (λ ys. x ∷ ys) (filter-all p xs a.1))

pub filter-none : {X : Type 0} (p : X → Bool) (xs : List X) → AllByRecursion (λ x. p x ≡ false) xs → filter p xs ≡ []
filter-none p [] a = refl
filter-none p (x ∷ xs) a = rw a.0 (filter-none p xs a.1)

within_yes : (from to t : ℤ) → from ≤ℤ t → t ≤ℤ to → is_within from to t ≡ true
within_yes from to t a b = grind (arith, ints)

within_early : (from to t : ℤ) → t <ℤ from → is_within from to t ≡ false
within_early from to t a = grind (arith, ints)

within_late : (from to t : ℤ) → to <ℤ t → is_within from to t ≡ false
within_late from to t a = grind (arith, ints)

none_early : (from to : ℤ) (xs : List Row) → AllByRecursion (λ r. r.0 <ℤ from) xs → AllByRecursion (λ r. is_within from to r.0 ≡ false) xs
none_early from to xs a = all-weaker (λ r. r.0 <ℤ from) (λ r. is_within from to r.0 ≡ false) (λ r h. within_early from to r.0 h) xs a

none_late : (from to : ℤ) (xs : List Row) → AllByRecursion (λ r. to <ℤ r.0) xs → AllByRecursion (λ r. is_within from to r.0 ≡ false) xs
none_late from to xs a = all-weaker (λ r. to <ℤ r.0) (λ r. is_within from to r.0 ≡ false) (λ r h. within_late from to r.0 h) xs a

all_within : (from to : ℤ) (xs : List Row) → AllByRecursion (λ r. from ≤ℤ r.0) xs → AllByRecursion (λ r. r.0 ≤ℤ to) xs → AllByRecursion (λ r. is_within from to r.0 ≡ true) xs
all_within from to [] a b = tt
all_within from to (x ∷ xs) a b = (within_yes from to x.0 a.0 b.0, all_within from to xs a.1 b.1)

outside_all : (from to : ℤ) (xs : List Row) → AllByRecursion (λ r. is_within from to r.0 ≡ false) xs → rows_outside from to xs ≡ xs
outside_all from to xs a = filter-all (λ (r : Row). not (is_within from to r.0)) xs (all-weaker (λ r. is_within from to r.0 ≡ false) (λ r. not (is_within from to r.0) ≡ true) (λ r h. ap not h) xs a)

outside_none : (from to : ℤ) (xs : List Row) → AllByRecursion (λ r. is_within from to r.0 ≡ true) xs → rows_outside from to xs ≡ []
outside_none from to xs a = filter-none (λ (r : Row). not (is_within from to r.0)) xs (all-weaker (λ r. is_within from to r.0 ≡ true) (λ r. not (is_within from to r.0) ≡ false) (λ r h. ap not h) xs a)

-- a list of three parts: before, between and behind
pub three_within : (from to : ℤ) (xs ys zs : List Row) → AllByRecursion (λ r. r.0 <ℤ from) xs → AllByRecursion (λ r. from ≤ℤ r.0) ys → AllByRecursion (λ r. r.0 ≤ℤ to) ys → AllByRecursion (λ r. to <ℤ r.0) zs
    → (rows_within from to (xs ++ (ys ++ zs)) ≡ ys) × (rows_outside from to (xs ++ (ys ++ zs)) ≡ xs ++ zs)
three_within from to xs ys zs a b c d =
    let p = λ (r : Row). is_within from to r.0 in
    let q = λ (r : Row). not (is_within from to r.0) in
    let inner : rows_within from to (ys ++ zs) ≡ ys = filter-append p ys zs ∙ ap (λ (l : List Row). l ++ filter p zs) (filter-all p ys (all_within from to ys b c)) ∙ ap (λ (l : List Row). ys ++ l) (filter-none p zs (none_late from to zs d)) ∙ append-nil ys in
    let outer : rows_outside from to (ys ++ zs) ≡ zs = filter-append q ys zs ∙ ap (λ (l : List Row). l ++ filter q zs) (outside_none from to ys (all_within from to ys b c)) ∙ outside_all from to zs (none_late from to zs d) in (
      filter-append p xs (ys ++ zs) ∙ ap (λ (l : List Row). l ++ filter p (ys ++ zs)) (filter-none p xs (none_early from to xs a)) ∙ inner,
      filter-append q xs (ys ++ zs) ∙ ap (λ (l : List Row). l ++ filter q (ys ++ zs)) (outside_all from to xs (none_early from to xs a)) ∙ ap (λ (l : List Row). xs ++ l) outer,
    )

pub take-take : (xs : List Row) (i j : ℕ) → i ≤ j → take i (take j xs) ≡ take i xs
take-take xs zero j h = refl
take-take [] (suc i) zero h = refl
take-take [] (suc i) (suc j) h = refl
take-take (x ∷ xs) (suc i) zero h = absurd (omega arith)
take-take (x ∷ xs) (suc i) (suc j) h = ap (λ (l : List Row). x ∷ l) (take-take xs i j (omega arith))

all-drop : {X : Type 0} (P : X → Type 0) (xs : List X) (i j : ℕ) → i ≤ j → AllByRecursion P (drop i xs) → AllByRecursion P (drop j xs)
all-drop P xs zero zero h a = a
all-drop P [] zero (suc j) h a = tt
all-drop P (x ∷ xs) zero (suc j) h a = all-drop P xs zero j (omega arith) a.1
all-drop P xs (suc i) zero h a = absurd (omega arith)
all-drop P [] (suc i) (suc j) h a = tt
all-drop P (x ∷ xs) (suc i) (suc j) h a = all-drop P xs i j (omega arith) a

drop-seam : (xs : List Row) (i j : ℕ) → i ≤ j → drop i xs ≡ drop i (take j xs) ++ drop j xs
drop-seam xs zero j h = sym (take-append-drop j xs)
drop-seam xs (suc i) zero h = absurd (omega arith)
drop-seam [] (suc i) (suc j) h = refl
drop-seam (x ∷ xs) (suc i) (suc j) h = drop-seam xs i j (omega arith)

-- between the places where the times begin and end
pub range_within : (from to : ℤ) (xs : List Row) (i j : ℕ) → i ≤ j
    → AllByRecursion (λ r. r.0 <ℤ from) (take i xs) → AllByRecursion (λ r. from ≤ℤ r.0) (drop i xs) → AllByRecursion (λ r. r.0 ≤ℤ to) (take j xs) → AllByRecursion (λ r. to <ℤ r.0) (drop j xs)
    → (drop i (take j xs) ≡ rows_within from to xs) × (take i xs ++ drop j xs ≡ rows_outside from to xs)
range_within from to xs i j h a b c d =
    let mid = drop i (take j xs) in
    let seam : drop i xs ≡ mid ++ drop j xs = drop-seam xs i j h in
    let whole : take i xs ++ (mid ++ drop j xs) ≡ xs = ap (λ (l : List Row). take i xs ++ l) (sym seam) ∙ take-append-drop i xs in
    let low = all-front (λ r. from ≤ℤ r.0) mid (drop j xs) (subst (AllByRecursion (λ r. from ≤ℤ r.0)) seam b) in
    let front : take i (take j xs) ++ mid ≡ take j xs = take-append-drop i (take j xs) in
    let up = all-back (λ r. r.0 ≤ℤ to) (take i (take j xs)) mid (subst (AllByRecursion (λ r. r.0 ≤ℤ to)) (sym front) c) in
    let both = three_within from to (take i xs) mid (drop j xs) a low up d in
    (sym both.0 ∙ ap (rows_within from to) whole, sym both.1 ∙ ap (rows_outside from to) whole)

-- the first time is behind the second: none is between them
pub range_empty : (from to : ℤ) (xs : List Row) (i j : ℕ) → j ≤ i
    → AllByRecursion (λ r. r.0 <ℤ from) (take i xs) → AllByRecursion (λ r. to <ℤ r.0) (drop j xs)
    → (rows_within from to xs ≡ []) × (take i xs ++ drop i xs ≡ rows_outside from to xs)
range_empty from to xs i j h a d =
    let none : AllByRecursion (λ r. is_within from to r.0 ≡ false) (take i xs ++ drop i xs) = all-append (λ (r : Row). is_within from to r.0 ≡ false) (take i xs) (drop i xs) (none_early from to (take i xs) a) (none_late from to (drop i xs) (all-drop (λ r. to <ℤ r.0) xs j i h d)) in
    let whole = take-append-drop i xs in
    let each = subst (AllByRecursion (λ r. is_within from to r.0 ≡ false)) whole none in
    (filter-none (λ (r : Row). is_within from to r.0) xs each, whole ∙ sym (outside_all from to xs each))

-- ---- one item more of a list

pub take_item : {X : Type 0} (xs : List X) (i : ℕ) (x : X) → i < length xs → x ≡ get_or xs i x → take (i + 1) xs ≡ take i xs ++ x ∷ []
take_item xs i x h e = take_more xs i x h ∙ ap (λ y. take i xs ++ y ∷ []) (sym e)

-- a list that doesn't fall, from a place on
pub rising_at : (xs : List Row) (i : ℕ) (x : Row) → i < length xs → x ≡ get_or xs i x → AreRising xs → AllByRecursion (λ r. x.0 ≤ℤ r.0) (drop (suc i) xs)
rising_at [] i x h e a = absurd (omega arith)
rising_at (y ∷ xs) zero x h e a = subst (λ (z : Row). AllByRecursion (λ r. z.0 ≤ℤ r.0) xs) (sym e) a.0
rising_at (y ∷ xs) (suc i) x h e a = rising_at xs i x (omega arith) e a.1

pub drop_front : (xs : List Row) (i : ℕ) → drop i (take i xs) ≡ []
drop_front [] zero = refl
drop_front [] (suc i) = refl
drop_front (x ∷ xs) zero = refl
drop_front (x ∷ xs) (suc i) = drop_front xs i

pub ascending-cut : (xs : List Row) (i j : ℕ) → i ≤ j → AreAscending (take j xs) → AreAscending (take i xs)
ascending-cut xs i j h a = subst AreAscending (take-take xs i j h) (ascending-take i (take j xs) a)

all-filter : {X : Type 0} (P : X → Type 0) (p : X → Bool) (xs : List X) → AllByRecursion P xs → AllByRecursion P (filter p xs)
all-filter P p [] a = tt
all-filter P p (x ∷ xs) a = by (p x) (all-filter P p xs a.1)
  where
    by : (b : Bool) → AllByRecursion P (filter p xs) → AllByRecursion P (cond b (x ∷ filter p xs) (filter p xs))
    by true rest = (a.0, rest)
    by false rest = rest

pub ascending-filter : (p : Row → Bool) (xs : List Row) → AreAscending xs → AreAscending (filter p xs)
ascending-filter p [] a = tt
ascending-filter p (x ∷ xs) a = by (p x) (ascending-filter p xs a.1)
  where
    by : (b : Bool) → AreAscending (filter p xs) → AreAscending (cond b (x ∷ filter p xs) (filter p xs))
    by true rest = (all-filter (λ y. x.0 <ℤ y.0) p xs a.0, rest)
    by false rest = rest

pub slice_is : (xs : List Row) (i j : ℕ) → i ≤ j → take (j - i) (drop i xs) ≡ drop i (take j xs)
slice_is xs i j h = sym (drop-take i (j - i) xs) ∙ ap (λ (n : ℕ). drop i (take n xs)) (omega arith)
