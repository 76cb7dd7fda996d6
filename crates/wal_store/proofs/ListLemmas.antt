-- Items one behind the other are taken off the front of bytes in one way.
use Rattle.std.proofs.Common.{◌≡◌, ◌≢◌, ℕ, ◌+◌, ◌<◌, ◌≤◌, List, [], ◌∷◌, ◌++◌, length, drop, slice_index_or, refl, sym, ap, ◌∙◌, arith}
use Rattle.std.specs.List.{flat_map, AllByRecursion}
use Rattle.std.proofs.lemmas.List.{append_assoc, append-nil, length-append}

-- the item that stands first is the only one that does
abbrev pub IsUnique : (X : Type 0) → (X → List ℕ) → (X → Type 0) → Type 0
IsUnique X bytes_of Is = (a b : X) (r s : List ℕ) → Is a → Is b → bytes_of a ++ r ≡ bytes_of b ++ s → (a ≡ b) × (r ≡ s)

-- These items were taken, so many, and this is left. Whoever takes such items off the bytes takes these first.
pub record Took (X : Type 0) (bytes_of : X → List ℕ) (Is : X → Type 0) (bytes : List ℕ) (done : List X) (rest : List ℕ) (count : ℕ) : Type 0 where
  pub whole : bytes ≡ flat_map bytes_of done ++ rest
  pub all : AllByRecursion Is done
  pub many : length done ≡ count
  pub only : (others : List X) (r : List ℕ) → AllByRecursion Is others → count ≤ length others → bytes ≡ flat_map bytes_of others ++ r
      → (more : List X) × (length others ≡ count + length more) × (rest ≡ flat_map bytes_of more ++ r) × AllByRecursion Is more

pub took_none : (X : Type 0) (bytes_of : X → List ℕ) (Is : X → Type 0) (bytes : List ℕ) → Took X bytes_of Is bytes [] bytes 0
took_none X bytes_of Is bytes = record { whole = refl; all = tt; many = refl; only = λ others r all less is. (others, omega arith, is, all) }

flat_push : (X : Type 0) (bytes_of : X → List ℕ) (items : List X) (item : X) (rest : List ℕ) → flat_map bytes_of items ++ (bytes_of item ++ rest) ≡ flat_map bytes_of (items ++ item ∷ []) ++ rest
flat_push X bytes_of [] item rest = ap (λ (l : List ℕ). l ++ rest) (sym (append-nil (bytes_of item)))
flat_push X bytes_of (x ∷ xs) item rest =
    append_assoc (bytes_of x) (flat_map bytes_of xs) (bytes_of item ++ rest) ∙ ap (λ (l : List ℕ). bytes_of x ++ l) (flat_push X bytes_of xs item rest)
    ∙ sym (append_assoc (bytes_of x) (flat_map bytes_of (xs ++ item ∷ [])) rest)

pub all_push : (X : Type 0) (Is : X → Type 0) (items : List X) (item : X) → AllByRecursion Is items → Is item → AllByRecursion Is (items ++ item ∷ [])
all_push X Is [] item all one = (one, tt)
all_push X Is (x ∷ xs) item all one = (all.0, all_push X Is xs item all.1 one)

first_is : (X : Type 0) (bytes_of : X → List ℕ) (Is : X → Type 0) → IsUnique X bytes_of Is → (item : X) (behind r : List ℕ) (count total : ℕ) (others : List X) → Is item → count + 1 ≤ total → total ≡ count + length others
    → bytes_of item ++ behind ≡ flat_map bytes_of others ++ r → AllByRecursion Is others
    → (more : List X) × (total ≡ (count + 1) + length more) × (behind ≡ flat_map bytes_of more ++ r) × AllByRecursion Is more
first_is X bytes_of Is unique item behind r count total [] one more same is all = absurd (omega (arith, more, same))
first_is X bytes_of Is unique item behind r count total (x ∷ xs) one more same is all =
    let both = unique item x behind (flat_map bytes_of xs ++ r) one all.0 (is ∙ append_assoc (bytes_of x) (flat_map bytes_of xs) r) in
    (xs, omega (arith, same), both.1, all.1)

pub took_one : (X : Type 0) (bytes_of : X → List ℕ) (Is : X → Type 0) → IsUnique X bytes_of Is → (bytes : List ℕ) (done : List X) (rest behind : List ℕ) (count : ℕ) (item : X) → Took X bytes_of Is bytes done rest count
    → rest ≡ bytes_of item ++ behind → Is item → Took X bytes_of Is bytes (done ++ item ∷ []) behind (count + 1)
took_one X bytes_of Is unique bytes done rest behind count item took is one = record {
  whole = took.whole ∙ ap (λ (l : List ℕ). flat_map bytes_of done ++ l) is ∙ flat_push X bytes_of done item behind;
  all = all_push X Is done item took.all one;
  many = omega (arith, length-append done (item ∷ []), took.many);
  only = λ others r all more same.
      let so_far = took.only others r all (omega (arith, more)) same in
      first_is X bytes_of Is unique item behind r count (length others) so_far.0 one more so_far.1 (sym is ∙ so_far.2) so_far.3;
}

stuck : (X : Type 0) (bytes_of : X → List ℕ) (Is : X → Type 0) (rest r : List ℕ) (count total : ℕ) (others : List X) → count < total → total ≡ count + length others → rest ≡ flat_map bytes_of others ++ r → AllByRecursion Is others
    → ((item : X) (more : List ℕ) → Is item → rest ≢ bytes_of item ++ more) → ⊥
stuck X bytes_of Is rest r count total [] less same is all none = omega (arith, less, same)
stuck X bytes_of Is rest r count total (x ∷ xs) less same is all none = none x (flat_map bytes_of xs ++ r) all.0 (is ∙ append_assoc (bytes_of x) (flat_map bytes_of xs) r)

-- where no item stands at the front of what is left, the bytes don't begin with so many
pub stuck_none : (X : Type 0) (bytes_of : X → List ℕ) (Is : X → Type 0) (bytes : List ℕ) (done : List X) (rest : List ℕ) (count total : ℕ) → Took X bytes_of Is bytes done rest count → count < total
    → ((item : X) (more : List ℕ) → Is item → rest ≢ bytes_of item ++ more)
    → (all : List X) (r : List ℕ) → AllByRecursion Is all → length all ≡ total → bytes ≢ flat_map bytes_of all ++ r
stuck_none X bytes_of Is bytes done rest count total took less none all r are same is =
    let so_far = took.only all r are (omega (arith, less, same)) is in
    stuck X bytes_of Is rest r count total so_far.0 less (omega (arith, so_far.1, same)) so_far.2 so_far.3 none

left_over : (X : Type 0) (bytes_of : X → List ℕ) (rest : List ℕ) (others : List X) → length others ≡ 0 → rest ≡ flat_map bytes_of others ++ [] → rest ≡ []
left_over X bytes_of rest [] none is = is
left_over X bytes_of rest (x ∷ xs) none is = absurd (omega (arith, none))

-- where bytes are left behind all, they aren't so many either
pub left_none : (X : Type 0) (bytes_of : X → List ℕ) (Is : X → Type 0) (bytes : List ℕ) (done : List X) (rest : List ℕ) (total : ℕ) → Took X bytes_of Is bytes done rest total → (rest ≡ [] → ⊥)
    → (all : List X) → AllByRecursion Is all → length all ≡ total → bytes ≢ flat_map bytes_of all
left_none X bytes_of Is bytes done rest total took some all are same is =
    let so_far = took.only all [] are (omega (arith, same)) (is ∙ sym (append-nil (flat_map bytes_of all))) in
    some (left_over X bytes_of rest so_far.0 (omega (arith, so_far.1, same)) so_far.2)

-- items of as many bytes at least
pub few_items : (X : Type 0) (bytes_of : X → List ℕ) → ((item : X) → 1 ≤ length (bytes_of item)) → (items : List X) → length items ≤ length (flat_map bytes_of items)
few_items X bytes_of some [] = omega arith
few_items X bytes_of some (x ∷ xs) = omega (arith, some x, few_items X bytes_of some xs, length-append (bytes_of x) (flat_map bytes_of xs))

-- two lists of one length are one
pub same_items : (X : Type 0) (bytes_of : X → List ℕ) (Is : X → Type 0) → IsUnique X bytes_of Is → (xs ys : List X) (r s : List ℕ) → AllByRecursion Is xs → AllByRecursion Is ys → length xs ≡ length ys
    → flat_map bytes_of xs ++ r ≡ flat_map bytes_of ys ++ s → (xs ≡ ys) × (r ≡ s)
same_items X bytes_of Is unique [] [] r s a b l is = (refl, is)
same_items X bytes_of Is unique [] (y ∷ ys) r s a b l is = absurd (omega (arith, l))
same_items X bytes_of Is unique (x ∷ xs) [] r s a b l is = absurd (omega (arith, l))
same_items X bytes_of Is unique (x ∷ xs) (y ∷ ys) r s a b l is =
    let one = unique x y (flat_map bytes_of xs ++ r) (flat_map bytes_of ys ++ s) a.0 b.0 (sym (append_assoc (bytes_of x) (flat_map bytes_of xs) r) ∙ is ∙ append_assoc (bytes_of y) (flat_map bytes_of ys) s) in
    let rest = same_items X bytes_of Is unique xs ys r s a.1 b.1 (omega (arith, l)) one.1 in
    (λ i. one.0 i ∷ rest.0 i, rest.1)

-- the item at the front, and those behind it
pub at_front : {X : Type 0} (xs : List X) (x : X) → 0 < length xs → x ≡ slice_index_or xs 0 x → xs ≡ x ∷ drop 1 xs
at_front [] x some is = absurd (let none : 0 < 0 = some in omega (arith, none))
at_front (y ∷ ys) x some is = ap (λ z. z ∷ ys) (sym is)
