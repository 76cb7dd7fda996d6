-- An id that is put among ascending ones, and one that is taken out.
use Rattle.std.proofs.Common.{◌≡◌, ℕ, zero, suc, ◌-◌, ◌<◌, ◌≤◌, ◌&&◌, ◌||◌, Bool, true, false, not, nat_eq, Result, Ok, Err, IsOk, is_ok, if◌then◌else◌, List, [], ◌∷◌, length, get_or, insert, remove, ◌⊎◌, inl, inr, refl, sym, ap, ◌∙◌, arith}
use Rattle.std.specs.List.{AllByRecursion}
use Rattle.std.specs.List.Sorted.{IsBinarySearchResult, IsStrictlySortedBy}
use Rattle.std.specs.Ordering.{nat_cmp, is_le, is_lt}
use Rattle.std.specs.Cmp.{nat_cmp_is}
use Rattle.std.specs.declared.cmp.Ordering.TheVariants.{Less}
use Rattle.std.proofs.lemmas.Bool.{cases_lt, false≢true}
use Rattle.std.proofs.lemmas.Bool.Decides.{nat_tests}
use Rattle.std.proofs.lemmas.Cmp.{nat_cmp_total, tied_itself}
use Rattle.std.proofs.lemmas.List.Sorted.{searched}
use Rattle.std.proofs.lemmas.Map.Keys.{le_from_is_le, non_decreasing_from_sorted}
use Rattle.index_lists.specs.Listing.{is_listed}
use Rattle.index_lists.specs.Searching.{IsPlaceFor}

less_is : (x y : ℕ) → x < y → nat_cmp x y ≡ Less
less_is x y less = sym (nat_cmp_is x y Less less)

is_less : (x y : ℕ) → nat_cmp x y ≡ Less → x < y
is_less x y is = by (le_from_is_le x y (ap is_le is))
  where
    apart : x ≡ y → ⊥
    apart e = false≢true (ap is_lt (sym (tied_itself nat_cmp_total x) ∙ ap (nat_cmp x) e ∙ is))

    by : x ≤ y → x < y
    by le = grind (arith, apart)

or_swap : (a b c : Bool) → a || (b || c) ≡ b || (a || c)
or_swap true true c = refl
or_swap true false c = refl
or_swap false b c = refl

-- ---- an id more

pub put_has : (ids : List ℕ) (place id other : ℕ) → place ≤ length ids → is_listed (insert ids place id) other ≡ (nat_eq other id || is_listed ids other)
put_has [] zero id other within = refl
put_has [] (suc place) id other within = absurd (omega (arith, within))
put_has (x ∷ ids) zero id other within = refl
put_has (x ∷ ids) (suc place) id other within =
    ap (λ (b : Bool). nat_eq other x || b) (put_has ids place id other (omega (arith, within))) ∙ or_swap (nat_eq other x) (nat_eq other id) (is_listed ids other)

all_put : (P : ℕ → Type 0) (ids : List ℕ) (place id : ℕ) → AllByRecursion P ids → P id → AllByRecursion P (insert ids place id)
all_put P [] zero id all one = (one, tt)
all_put P [] (suc place) id all one = (one, tt)
all_put P (x ∷ ids) zero id all one = (one, all)
all_put P (x ∷ ids) (suc place) id all one = (all.0, all_put P ids place id all.1 one)

all_above : (ids : List ℕ) (id : ℕ) → ((k : ℕ) → k < length ids → id < get_or ids k 0) → AllByRecursion (λ y. nat_cmp id y ≡ Less) ids
all_above [] id above = tt
all_above (x ∷ ids) id above = (less_is id x (above 0 (omega arith)), all_above ids id (λ k less. above (suc k) (omega (arith, less))))

pub put_ascends : (ids : List ℕ) (place id : ℕ) → IsStrictlySortedBy nat_cmp ids → IsPlaceFor id place ids → IsStrictlySortedBy nat_cmp (insert ids place id)
unfolding IsStrictlySortedBy
put_ascends [] zero id sorted is = (tt, tt)
put_ascends [] (suc place) id sorted is = absurd (let w = is.within in omega (arith, w))
put_ascends (x ∷ ids) zero id sorted is = (all_above (x ∷ ids) id (λ k less. is.behind k (omega arith) less), sorted)
put_ascends (x ∷ ids) (suc place) id sorted is = (
  all_put (λ y. nat_cmp x y ≡ Less) ids place id sorted.0 (less_is x id (is.before 0 (omega arith))),
  put_ascends ids place id sorted.1 (record {
    within = let w = is.within in omega (arith, w);
    before = λ k less. is.before (suc k) (omega (arith, less));
    behind = λ k le less. is.behind (suc k) (omega (arith, le)) (omega (arith, less));
  }),
)

-- ---- an id less

not_above : (ids : List ℕ) (x : ℕ) → AllByRecursion (λ y. nat_cmp x y ≡ Less) ids → is_listed ids x ≡ false
not_above [] x all = refl
not_above (y ∷ ids) x all = ap (λ (b : Bool). b || is_listed ids x) (differs (is_less x y all.0)) ∙ not_above ids x all.1
  where
    differs : x < y → nat_eq x y ≡ false
    differs less = grind (arith, nat_tests, less)

is_one : (a b : ℕ) → nat_eq a b ≡ true → a ≡ b
is_one a b e = grind (arith, nat_tests, e)

first_out : (ids : List ℕ) (x other : ℕ) → AllByRecursion (λ y. nat_cmp x y ≡ Less) ids → is_listed ids other ≡ ((nat_eq other x || is_listed ids other) && not (nat_eq other x))
first_out ids x other above = by (nat_eq other x) refl
  where
    and_true : (b : Bool) → b ≡ (b && true)
    and_true true = refl
    and_true false = refl

    by : (b : Bool) → nat_eq other x ≡ b → is_listed ids other ≡ ((b || is_listed ids other) && not b)
    by true e = ap (is_listed ids) (is_one other x e) ∙ not_above ids x above
    by false e = and_true (is_listed ids other)

all_at : (P : ℕ → Type 0) (ids : List ℕ) (k : ℕ) → k < length ids → AllByRecursion P ids → P (get_or ids k 0)
all_at P [] k less all = absurd (omega (arith, less))
all_at P (x ∷ ids) zero less all = all.0
all_at P (x ∷ ids) (suc k) less all = all_at P ids k (omega (arith, less)) all.1

pub taken_has : (ids : List ℕ) (place other : ℕ) → IsStrictlySortedBy nat_cmp ids → place < length ids → is_listed (remove ids place) other ≡ (is_listed ids other && not (nat_eq other (get_or ids place 0)))
unfolding IsStrictlySortedBy
taken_has [] place other sorted within = absurd (omega (arith, within))
taken_has (x ∷ ids) zero other sorted within = first_out ids x other sorted.0
taken_has (x ∷ ids) (suc place) other sorted within =
    let less = is_less x (get_or ids place 0) (all_at (λ y. nat_cmp x y ≡ Less) ids place (omega (arith, within)) sorted.0) in
    ap (λ (b : Bool). nat_eq other x || b) (taken_has ids place other sorted.1 (omega (arith, within))) ∙ by (nat_eq other x) refl less
  where
    by : (b : Bool) → nat_eq other x ≡ b → x < get_or ids place 0 → (b || (is_listed ids other && not (nat_eq other (get_or ids place 0)))) ≡ ((b || is_listed ids other) && not (nat_eq other (get_or ids place 0)))
    by true e less = sym (ap not (apart (is_one other x e)))
      where
        apart : other ≡ x → nat_eq other (get_or ids place 0) ≡ false
        apart same = grind (arith, nat_tests, less, same)
    by false e less = refl

all_taken : (P : ℕ → Type 0) (ids : List ℕ) (place : ℕ) → AllByRecursion P ids → AllByRecursion P (remove ids place)
all_taken P [] zero all = tt
all_taken P [] (suc place) all = tt
all_taken P (x ∷ ids) zero all = all.1
all_taken P (x ∷ ids) (suc place) all = (all.0, all_taken P ids place all.1)

pub taken_ascends : (ids : List ℕ) (place : ℕ) → IsStrictlySortedBy nat_cmp ids → IsStrictlySortedBy nat_cmp (remove ids place)
unfolding IsStrictlySortedBy
taken_ascends [] zero sorted = tt
taken_ascends [] (suc place) sorted = tt
taken_ascends (x ∷ ids) zero sorted = sorted.1
taken_ascends (x ∷ ids) (suc place) sorted = (all_taken (λ y. nat_cmp x y ≡ Less) ids place sorted.0, taken_ascends ids place sorted.1)

-- ---- an id that is there already, or that isn't

pub none_more : (ids : List ℕ) (id other : ℕ) → is_listed ids id ≡ true → is_listed ids other ≡ (nat_eq other id || is_listed ids other)
none_more ids id other there = by (nat_eq other id) refl
  where
    by : (b : Bool) → nat_eq other id ≡ b → is_listed ids other ≡ (b || is_listed ids other)
    by true e = ap (is_listed ids) (is_one other id e) ∙ there
    by false e = refl

pub none_less : (ids : List ℕ) (id other : ℕ) → is_listed ids id ≡ false → is_listed ids other ≡ (is_listed ids other && not (nat_eq other id))
none_less ids id other lacks = by (nat_eq other id) refl
  where
    and_true : (b : Bool) → b ≡ (b && true)
    and_true true = refl
    and_true false = refl

    and_false : (b : Bool) → (b && false) ≡ false
    and_false true = refl
    and_false false = refl

    by : (b : Bool) → nat_eq other id ≡ b → is_listed ids other ≡ (is_listed ids other && not b)
    by true e = ap (is_listed ids) (is_one other id e) ∙ lacks ∙ sym (and_false (is_listed ids other))
    by false e = and_true (is_listed ids other)

none_at : (ids : List ℕ) (id : ℕ) → ((k : ℕ) → k < length ids → get_or ids k 0 ≡ id → ⊥) → is_listed ids id ≡ false
none_at [] id f = refl
none_at (x ∷ ids) id f = ap (λ (b : Bool). b || is_listed ids id) (differs (f 0 (omega arith))) ∙ none_at ids id (λ k less e. f (suc k) (omega (arith, less)) e)
  where
    differs : (x ≡ id → ⊥) → nat_eq id x ≡ false
    differs apart = grind (arith, nat_tests, apart)

pub there_at : (ids : List ℕ) (id place : ℕ) → place < length ids → get_or ids place 0 ≡ id → is_listed ids id ≡ true
there_at [] id place within is = absurd (omega (arith, within))
there_at (x ∷ ids) id zero within is = ap (λ (b : Bool). b || is_listed ids id) (same is)
  where
    same : x ≡ id → nat_eq id x ≡ true
    same e = grind (arith, nat_tests, e)
there_at (x ∷ ids) id (suc place) within is = ap (λ (b : Bool). nat_eq id x || b) (there_at ids id place (omega (arith, within)) is) ∙ or_true (nat_eq id x)
  where
    or_true : (b : Bool) → (b || true) ≡ true
    or_true true = refl
    or_true false = refl

-- what a binary search tells of ascending ids
pub not_found : (ids : List ℕ) (id place : ℕ) → IsStrictlySortedBy nat_cmp ids → IsBinarySearchResult (λ y. nat_cmp y id) ids (Err place) → (is_listed ids id ≡ false) × IsPlaceFor id place ids
not_found ids id place sorted result =
    let found = searched ids id (Err place) result (λ a b le less. non_decreasing_from_sorted ids sorted a b 0 le less) in (
      none_at ids id (λ k less e. by k less e (found.1 k) (found.2 k) (cases_lt k place)),
      record { within = found.0; before = found.1; behind = found.2 },
    )
  where
    by : (k : ℕ) → k < length ids → get_or ids k 0 ≡ id → (k < place → get_or ids k 0 < id) → (place ≤ k → k < length ids → id < get_or ids k 0) → (k < place) ⊎ (place ≤ k) → ⊥
    by k less e low high (inl before) = omega (arith, low before, e)
    by k less e low high (inr behind) = omega (arith, high behind less, e)

-- an id behind the last one
pub above_last : (ids : List ℕ) (id : ℕ) → IsStrictlySortedBy nat_cmp ids → get_or ids (length ids - 1) 0 < id → (is_listed ids id ≡ false) × IsPlaceFor id (length ids) ids
above_last ids id sorted less = (
  none_at ids id (λ k within e. omega (arith, low k within, e)),
  record { within = omega arith; before = low; behind = λ k le within. absurd (omega (arith, le, within)) },
)
  where
    low : (k : ℕ) → k < length ids → get_or ids k 0 < id
    low k within = let le = non_decreasing_from_sorted ids sorted k (length ids - 1) 0 (omega (arith, within)) (omega (arith, within)) in omega (arith, le, less)

pub found_at : (ids : List ℕ) (id place : ℕ) → IsStrictlySortedBy nat_cmp ids → IsBinarySearchResult (λ y. nat_cmp y id) ids (Ok place) → (place < length ids) × (get_or ids place 0 ≡ id)
found_at ids id place sorted result = searched ids id (Ok place) result (λ a b le less. non_decreasing_from_sorted ids sorted a b 0 le less)

pub found_there : (ids : List ℕ) (id place : ℕ) → IsStrictlySortedBy nat_cmp ids → IsBinarySearchResult (λ y. nat_cmp y id) ids (Ok place) → is_listed ids id ≡ true
found_there ids id place sorted result =
    let found = found_at ids id place sorted result in
    there_at ids id place found.0 found.1

pub none_ascend : IsStrictlySortedBy nat_cmp []
unfolding IsStrictlySortedBy
none_ascend = tt

pub ok_then : {T E X : Type 0} (r : Result T E) (x y : X) → IsOk r → (if is_ok r then x else y) ≡ x
ok_then (Ok t) x y ok = refl
ok_then (Err e) x y ok = absurd (false≢true ok)
