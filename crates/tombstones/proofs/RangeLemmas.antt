-- Ranges that are apart: their order by place, parts of the list, and one that joins the others.
use Rattle.std.proofs.Common.{ℕ, zero, suc, ◌<◌, ◌≤◌, ℤ, ◌≤ℤ◌, List, [], ◌∷◌, ◌++◌, length, take, drop, get_or, arith}
use Rattle.std.specs.List.{AllByRecursion, AllWithin}
use Rattle.std.specs.List.Sorted.{IsPartitionedBy}
use Rattle.std.specs.Int.Signed.{lt_z, le_z}
use Rattle.std.proofs.lemmas.Int.{ints}
use Rattle.std.proofs.lemmas.List.Elements.{All-from_recursion}
use Rattle.tombstones.specs.declared.range.TombRange.{TombRange}
use Rattle.tombstones.specs.Ranges.{IsApart, AreApart}

-- ---- what holds of each item

pub all_at : {X : Type 0} (P : X → Type 0) (xs : List X) (k : ℕ) (d : X) → k < length xs → AllByRecursion P xs → P (get_or xs k d)
all_at P xs k d h all = All-from_recursion P xs all k d h

pub all-append : {X : Type 0} (P : X → Type 0) (xs ys : List X) → AllByRecursion P xs → AllByRecursion P ys → AllByRecursion P (xs ++ ys)
all-append P [] ys a b = b
all-append P (x ∷ xs) ys a b = (a.0, all-append P xs ys a.1 b)

pub all-front : {X : Type 0} (P : X → Type 0) (xs ys : List X) → AllByRecursion P (xs ++ ys) → AllByRecursion P xs
all-front P [] ys a = tt
all-front P (x ∷ xs) ys a = (a.0, all-front P xs ys a.1)

pub all-back : {X : Type 0} (P : X → Type 0) (xs ys : List X) → AllByRecursion P (xs ++ ys) → AllByRecursion P ys
all-back P [] ys a = a
all-back P (x ∷ xs) ys a = all-back P xs ys a.1

pub all-weaker : {X : Type 0} (P Q : X → Type 0) → ((x : X) → P x → Q x) → (xs : List X) → AllByRecursion P xs → AllByRecursion Q xs
all-weaker P Q f [] a = tt
all-weaker P Q f (x ∷ xs) a = (f x a.0, all-weaker P Q f xs a.1)

-- what holds below a place holds of the items in front of it
pub within-take : {X : Type 0} (P : X → Type 0) (xs : List X) (i : ℕ) → i ≤ length xs → AllWithin P xs 0 i → AllByRecursion P (take i xs)
within-take P [] zero h w = tt
within-take P [] (suc i) h w = tt
within-take P (x ∷ xs) zero h w = tt
within-take P (x ∷ xs) (suc i) h w = (w 0 x (omega arith) (omega arith), within-take P xs i (omega arith) (λ k d a b. w (suc k) d (omega arith) (omega arith)))

pub within-drop : {X : Type 0} (P : X → Type 0) (xs : List X) (i : ℕ) → AllWithin P xs i (length xs) → AllByRecursion P (drop i xs)
within-drop P [] zero w = tt
within-drop P [] (suc i) w = tt
within-drop P (x ∷ xs) zero w = (w 0 x (omega arith) (omega arith), within-drop P xs zero (λ k d a b. w (suc k) d (omega arith) (omega arith)))
within-drop P (x ∷ xs) (suc i) w = within-drop P xs i (λ k d a b. w (suc k) d (omega arith) (omega arith))

-- ---- the order of ranges that are apart

ordered_at : (xs : List TombRange) (k : ℕ) (d : TombRange) → k < length xs → AreApart xs → (get_or xs k d).from ≤ℤ (get_or xs k d).to
ordered_at [] k d h a = absurd (omega arith)
ordered_at (x ∷ xs) zero d h a = a.0
ordered_at (x ∷ xs) (suc k) d h a = ordered_at xs k d (omega arith) a.2

pub rises : (xs : List TombRange) (i j : ℕ) (d : TombRange) → i ≤ j → j < length xs → AreApart xs → ((get_or xs i d).to ≤ℤ (get_or xs j d).to) × ((get_or xs i d).from ≤ℤ (get_or xs j d).from)
rises [] i j d g h a = absurd (omega arith)
rises (x ∷ xs) zero zero d g h a = (omega (arith, ints), omega (arith, ints))
rises (x ∷ xs) (suc i) zero d g h a = absurd (omega arith)
rises (x ∷ xs) zero (suc j) d g h a =
    let far : IsApart x (get_or xs j d) = all_at (IsApart x) xs j d (omega arith) a.1 in
    let some = ordered_at xs j d (omega arith) a.2 in
    let first = a.0 in
    (omega (arith, ints), omega (arith, ints))
rises (x ∷ xs) (suc i) (suc j) d g h a = rises xs i j d (omega arith) (omega arith) a.2

pub parted_by_end : (xs : List TombRange) (time : ℤ) → AreApart xs → IsPartitionedBy (λ r. lt_z r.to time) xs
parted_by_end xs time a i j d g h e =
    let up = (rises xs i j d g h a).0 in
    grind (arith, ints)

pub parted_by_start : (xs : List TombRange) (time : ℤ) → AreApart xs → IsPartitionedBy (λ r. le_z r.from time) xs
parted_by_start xs time a i j d g h e =
    let up = (rises xs i j d g h a).1 in
    grind (arith, ints)

pub apart-front : (xs ys : List TombRange) → AreApart (xs ++ ys) → AreApart xs
apart-front [] ys a = tt
apart-front (x ∷ xs) ys a = (a.0, all-front (IsApart x) xs ys a.1, apart-front xs ys a.2)

pub apart-back : (xs ys : List TombRange) → AreApart (xs ++ ys) → AreApart ys
apart-back [] ys a = a
apart-back (x ∷ xs) ys a = apart-back xs ys a.2

-- each range of the first list is apart from each of the second
abbrev pub Before : List TombRange → List TombRange → Type 0
Before xs ys = AllByRecursion (λ x. AllByRecursion (IsApart x) ys) xs

pub apart-between : (xs ys : List TombRange) → AreApart (xs ++ ys) → Before xs ys
apart-between [] ys a = tt
apart-between (x ∷ xs) ys a = (all-back (IsApart x) xs ys a.1, apart-between xs ys a.2)

pub apart-append : (xs ys : List TombRange) → AreApart xs → AreApart ys → Before xs ys → AreApart (xs ++ ys)
apart-append [] ys a b c = b
apart-append (x ∷ xs) ys a b c = (a.0, all-append (IsApart x) xs ys a.1 c.0, apart-append xs ys a.2 b c.1)
