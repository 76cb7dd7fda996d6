-- Which ids are marked.
use Rattle.std.proofs.Common.{◌≡◌, ◌↔◌, ℕ, zero, suc, ◌+◌, ◌<◌, ◌≤◌, ◌||◌, Bool, true, false, nat_eq, IsTrue, List, [], ◌∷◌, length, map, take, get_or, slice_set, replicate, not, Err, ◌⊎◌, inl, inr, refl, sym, ap, ◌∙◌, subst, arith}
use Rattle.std.specs.List.{AllByRecursion, list_any}
use Rattle.std.specs.List.Sorted.{IsStrictlySortedBy, IsBinarySearchResult}
use Rattle.std.proofs.lemmas.List.Sorted.{searched}
use Rattle.std.proofs.lemmas.Map.Keys.{non_decreasing_from_sorted}
use Rattle.std.proofs.lemmas.Bool.{cases_lt}
use Rattle.std.specs.Ordering.{nat_cmp}
use Rattle.std.specs.declared.cmp.Ordering.TheVariants.{Less}
use Rattle.std.proofs.lemmas.Bool.{false≢true}
use Rattle.std.proofs.lemmas.Bool.Decides.{nat_tests}
use Rattle.std.proofs.lemmas.List.Folds.{list_any_at, list_any_more}
use Rattle.index_file.specs.declared.content.NameIds.{NameIds}
use Rattle.index_file.specs.Contents.{AreAllAmong, AreAmong, has, some_has}
use Rattle.index_file.proofs.ItemLemmas.{less_is}

-- ---- all of a list, up to a place

all_next : {X : Type 0} (P : X → Type 0) (xs : List X) (i : ℕ) (d : X) → i < length xs → AllByRecursion P (take i xs) → P (get_or xs i d) → AllByRecursion P (take (suc i) xs)
all_next P [] i d less a p = absurd (omega (arith, less))
all_next P (x ∷ xs) zero d less a p = (p, tt)
all_next P (x ∷ xs) (suc i) d less a p = (a.0, all_next P xs i d (omega (arith, less)) a.1 p)

pub all_more : {X : Type 0} (P : X → Type 0) (xs : List X) (i : ℕ) (d : X) → i < length xs → AllByRecursion P (take i xs) → P (get_or xs i d) → AllByRecursion P (take (i + 1) xs)
all_more P xs i d less a p = let same : suc i ≡ i + 1 = omega arith in subst (λ (n : ℕ). AllByRecursion P (take n xs)) same (all_next P xs i d less a p)

pub all_at : {X : Type 0} (P : X → Type 0) (xs : List X) (i : ℕ) (d : X) → i < length xs → AllByRecursion P xs → P (get_or xs i d)
all_at P [] i d less a = absurd (omega (arith, less))
all_at P (x ∷ xs) zero d less a = a.0
all_at P (x ∷ xs) (suc i) d less a = all_at P xs i d (omega (arith, less)) a.1

-- ---- where an id stands

pub is_not : (a b : ℕ) → (b ≡ a → ⊥) → nat_eq a b ≡ false
is_not a b apart = grind (arith, nat_tests, apart)

pub none_at : (ids : List ℕ) (id : ℕ) → ((k : ℕ) → k < length ids → get_or ids k 0 ≡ id → ⊥) → has ids id ≡ false
none_at [] id f = refl
none_at (x ∷ xs) id f =
    ap (λ (b : Bool). b || has xs id) (is_not id x (λ e. f zero (omega arith) e)) ∙ none_at xs id (λ k less e. f (suc k) (omega (arith, less)) e)

pub has_at : (ids : List ℕ) (id k : ℕ) → k < length ids → get_or ids k 0 ≡ id → has ids id ≡ true
has_at ids id k less is = list_any_at (nat_eq id) ids k 0 less (subst (λ (x : ℕ). nat_eq id x ≡ true) (sym is) (grind (arith, nat_tests)))

-- ---- marks

pub map_same : {X Y : Type 0} (f g : X → Y) (xs : List X) → AllByRecursion (λ x. f x ≡ g x) xs → map f xs ≡ map g xs
map_same f g [] a = refl
map_same f g (x ∷ xs) a = cc (a.0, map_same f g xs a.1)

or_false : (b : Bool) → b || false ≡ b
or_false true = refl
or_false false = refl

or_true : (b : Bool) → b || true ≡ true
or_true true = refl
or_true false = refl

or_assoc : (a b c : Bool) → (a || b) || c ≡ a || (b || c)
or_assoc true b c = refl
or_assoc false b c = refl

-- ids above one are not this one
apart_all : (is : ℕ → Bool) (id : ℕ) (ids : List ℕ) → AllByRecursion (λ y. nat_cmp id y ≡ Less) ids → AllByRecursion (λ y. is y ≡ is y || nat_eq y id) ids
apart_all is id [] a = tt
apart_all is id (y ∷ ys) a =
    let above = less_is id y a.0 in
    (sym (ap (λ (b : Bool). is y || b) (is_not y id (λ (e : id ≡ y). omega (arith, above, e))) ∙ or_false (is y)), apart_all is id ys a.1)

itself : (a b : ℕ) → a ≡ b → nat_eq a b ≡ true
itself a b is = grind (arith, nat_tests, is)

-- one id more is marked at its place
pub marked_one : (is : ℕ → Bool) (ids : List ℕ) (k id : ℕ) → IsStrictlySortedBy nat_cmp ids → k < length ids → get_or ids k 0 ≡ id → slice_set (map is ids) k true ≡ map (λ x. is x || nat_eq x id) ids
unfolding IsStrictlySortedBy
marked_one is [] k id sorted less at = absurd (omega (arith, less))
marked_one is (x ∷ xs) zero id sorted less at =
    let here : true ≡ is x || nat_eq x id = sym (ap (λ (b : Bool). is x || b) (itself x id at) ∙ or_true (is x)) in
    let rest = map_same is (λ y. is y || nat_eq y id) xs (apart_all is id xs (subst (λ (z : ℕ). AllByRecursion (λ y. nat_cmp z y ≡ Less) xs) at sorted.0)) in
    cc (here, rest)
marked_one is (x ∷ xs) (suc k) id sorted less at =
    let below = less_is x (get_or xs k 0) (all_at (λ y. nat_cmp x y ≡ Less) xs k 0 (omega (arith, less)) sorted.0) in
    let here : is x ≡ is x || nat_eq x id = sym (ap (λ (b : Bool). is x || b) (is_not x id (λ (e : id ≡ x). omega (arith, below, at, e))) ∙ or_false (is x)) in
    let rest = marked_one is xs k id sorted.1 (omega (arith, less)) at in
    cc (here, rest)

-- The ids of the list are among the others, and are marked besides those that were.
pub record MarksAlso (ids list : List ℕ) (old new : List Bool) : Type 0 where
  pub among : AreAmong ids list
  pub marked : (is : ℕ → Bool) → old ≡ map is ids → new ≡ map (λ id. is id || has list id) ids
  pub long : length new ≡ length ids

pub marks_none : (ids : List ℕ) (old : List Bool) → length old ≡ length ids → MarksAlso ids [] old old
marks_none ids old long = record {
  among = tt;
  marked = λ is e. e ∙ map_same is (λ id. is id || has [] id) ids (same is ids);
  long = long;
}
  where
    same : (is : ℕ → Bool) (ids : List ℕ) → AllByRecursion (λ id. is id ≡ is id || has [] id) ids
    same is [] = tt
    same is (x ∷ xs) = (sym (or_false (is x)), same is xs)

length_set : {X : Type 0} (xs : List X) (k : ℕ) (x : X) → length (slice_set xs k x) ≡ length xs
length_set [] k x = refl
length_set (y ∷ xs) zero x = refl
length_set (y ∷ xs) (suc k) x = ap suc (length_set xs k x)

pub marks_one : (ids list : List ℕ) (i id place : ℕ) (old new : List Bool) → MarksAlso ids (take i list) old new → IsStrictlySortedBy nat_cmp ids → i < length list → get_or list i 0 ≡ id → place < length ids → get_or ids place 0 ≡ id
    → MarksAlso ids (take (i + 1) list) old (slice_set new place true)
marks_one ids list i id place old new marks sorted less at within stands = record {
  among = all_more (λ x. IsTrue (has ids x)) list i 0 less marks.among (subst (λ (x : ℕ). IsTrue (has ids x)) (sym at) (has_at ids id place within stands));
  marked = λ is e.
      ap (λ (l : List Bool). slice_set l place true) (marks.marked is e)
      ∙ marked_one (λ x. is x || has (take i list) x) ids place id sorted within stands
      ∙ map_same (λ x. (is x || has (take i list) x) || nat_eq x id) (λ x. is x || has (take (i + 1) list) x) ids (same is ids);
  long = length_set new place true ∙ marks.long;
}
  where
    same : (is : ℕ → Bool) (ids : List ℕ) → AllByRecursion (λ x. (is x || has (take i list) x) || nat_eq x id ≡ is x || has (take (i + 1) list) x) ids
    same is [] = tt
    same is (x ∷ xs) = (
      or_assoc (is x) (has (take i list) x) (nat_eq x id)
          ∙ ap (λ (b : Bool). is x || b) (sym (list_any_more (nat_eq x) list i 0 less ∙ ap (λ (y : ℕ). has (take i list) x || nat_eq x y) at)),
      same is xs,
    )

-- the ids of one field more are marked
pub fields_one : (ids : List ℕ) (fields : List NameIds) (i : ℕ) (d : NameIds) (old new : List Bool) → i < length fields → old ≡ map (some_has (take i fields)) ids
    → ((is : ℕ → Bool) → old ≡ map is ids → new ≡ map (λ id. is id || has (get_or fields i d).ids id) ids) → new ≡ map (some_has (take (i + 1) fields)) ids
fields_one ids fields i d old new less was marked =
    marked (some_has (take i fields)) was ∙ map_same (λ id. some_has (take i fields) id || has (get_or fields i d).ids id) (some_has (take (i + 1) fields)) ids (same ids)
  where
    same : (ids : List ℕ) → AllByRecursion (λ x. some_has (take i fields) x || has (get_or fields i d).ids x ≡ some_has (take (i + 1) fields) x) ids
    same [] = tt
    same (x ∷ xs) = (sym (list_any_more (λ (l : NameIds). has l.ids x) fields i d less), same xs)

-- at first none is marked
pub unmarked : (ids : List ℕ) → map (some_has []) ids ≡ replicate (length ids) false
unmarked [] = refl
unmarked (x ∷ xs) = ap (λ (l : List Bool). false ∷ l) (unmarked xs)

-- all are marked
pub all_marked : (is_off : Bool → Bool) → is_off true ≡ false → is_off false ≡ true → (is : ℕ → Bool) (ids : List ℕ) → list_any is_off (map is ids) ≡ false ↔ AllByRecursion (λ id. IsTrue (is id)) ids
all_marked off on_is off_is is [] = ((λ e. tt), (λ a. refl))
all_marked off on_is off_is is (x ∷ xs) =
    let more = all_marked off on_is off_is is xs in (
      (λ none. by (is x) more.0 none),
      (λ a. ap (λ (b : Bool). off b || list_any off (map is xs)) a.0 ∙ ap (λ (b : Bool). b || list_any off (map is xs)) on_is ∙ more.1 a.1),
    )
  where
    by : (b : Bool) → (list_any off (map is xs) ≡ false → AllByRecursion (λ id. IsTrue (is id)) xs) → off b || list_any off (map is xs) ≡ false → IsTrue b × AllByRecursion (λ id. IsTrue (is id)) xs
    by true more e = (refl, more (sym (ap (λ (b : Bool). b || list_any off (map is xs)) on_is) ∙ e))
    by false more e = absurd (false≢true (sym e ∙ ap (λ (b : Bool). b || list_any off (map is xs)) off_is))

-- what the marks say of all fields
pub fields_all : (off : Bool → Bool) → off true ≡ false → off false ≡ true → (ids : List ℕ) (fields : List NameIds) (marks : List Bool) (r : Bool) → AreAllAmong ids fields → marks ≡ map (some_has fields) ids → r ≡ list_any off marks
    → IsTrue (not r) ↔ (AreAllAmong ids fields × AllByRecursion (λ id. IsTrue (some_has fields id)) ids)
fields_all off on_is off_is ids fields marks r among marked is =
    let value = is ∙ ap (list_any off) marked in
    let both = all_marked off on_is off_is (some_has fields) ids in (
      (λ test. (among, both.0 (sym value ∙ none r test))),
      (λ good. ap not (value ∙ both.1 good.1)),
    )
  where
    none : (r : Bool) → IsTrue (not r) → r ≡ false
    none true test = absurd (false≢true test)
    none false test = refl

-- the place of an id that is looked for
pub not_found : (ids : List ℕ) (id i : ℕ) → IsStrictlySortedBy nat_cmp ids → IsBinarySearchResult (λ y. nat_cmp y id) ids (Err i) → has ids id ≡ false
not_found ids id i sorted result =
    let found = searched ids id (Err i) result (λ a b le less. non_decreasing_from_sorted ids sorted a b 0 le less) in
    none_at ids id (λ k less e. by k less e (found.1 k) (found.2 k) (cases_lt k i))
  where
    by : (k : ℕ) → k < length ids → get_or ids k 0 ≡ id → (k < i → get_or ids k 0 < id) → (i ≤ k → k < length ids → id < get_or ids k 0) → (k < i) ⊎ (i ≤ k) → ⊥
    by k less e low high (inl before) = omega (arith, low before, e)
    by k less e low high (inr behind) = omega (arith, high behind less, e)
