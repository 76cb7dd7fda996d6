-- Elements of lists, by recursion.
use Rattle.std.proofs.Common.{◌≡◌, ap, refl, subst, ⊎_elim, inl, inr, ◌⊎◌, ℕ, zero, suc, ◌<◌, List, [], ◌∷◌, ◌++◌, length, get_or, Contains, Some, Ordering, Less, arith}
use Rattle.std.specs.BTreeMap.{BTreeMap, get, IsOrdered}
use Rattle.std.specs.Cmp.{IsTotalOrder}
use Rattle.std.specs.List.{AllByRecursion}
use Rattle.std.specs.List.Sorted.{IsStrictlySortedBy}
use Rattle.std.specs.Map.{keys_of}
use Rattle.std.proofs.lemmas.Map.Lookups.{CmpEqualImpliesEq}
use Rattle.std.proofs.lemmas.Map.Views.{btree_map_get_iff}

-- x is an element of xs
abbrev pub In : {X : Type 0} → X → List X → Type 0
In x [] = ⊥
In x (y ∷ ys) = (y ≡ x) ⊎ In x ys

pub in_contains : {X : Type 0} (x : X) (xs : List X) → In x xs → Contains xs x
in_contains x [] m = absurd m
in_contains x (y ∷ ys) m =
    ⊎_elim
    (λ (e : y ≡ x). (0, omega arith, e))
    (λ (later : In x ys). let c = in_contains x ys later in (suc c.0, (let below = c.1 in omega (arith, below)), c.2))
    m

pub contains_in : {X : Type 0} (x : X) (xs : List X) → Contains xs x → In x xs
contains_in x xs c = by xs c.0 c.1 c.2
  where
    by : (ys : List _) (k : ℕ) → k < length ys → get_or ys k x ≡ x → In x ys
    by [] k l e = absurd (omega (arith, l))
    by (y ∷ ys) zero l e = inl e
    by (y ∷ ys) (suc k) l e = inr (by ys k (omega (arith, l)) e)

pub in_left : {X : Type 0} (x : X) (xs ys : List X) → In x xs → In x (xs ++ ys)
in_left x [] ys m = absurd m
in_left x (y ∷ xs) ys m = ⊎_elim (λ e. inl e) (λ (later : In x xs). inr (in_left x xs ys later)) m

pub in_right : {X : Type 0} (x : X) (xs ys : List X) → In x ys → In x (xs ++ ys)
in_right x [] ys m = m
in_right x (y ∷ xs) ys m = inr (in_right x xs ys m)

pub in_either : {X : Type 0} (x : X) (xs ys : List X) → In x (xs ++ ys) → In x xs ⊎ In x ys
in_either x [] ys m = inr m
in_either x (y ∷ xs) ys m =
    ⊎_elim (λ (e : y ≡ x). inl (inl e)) (λ (later : In x (xs ++ ys)). ⊎_elim (λ (a : In x xs). inl (inr a)) (λ (b : In x ys). inr b) (in_either x xs ys later)) m

-- a key is that of an element
pub in_keys : {K X : Type 0} (k : K) (es : List (K × X)) → In k (keys_of es) → (v : X) × In (k, v) es
in_keys k [] m = absurd m
in_keys {K} {X} k (e ∷ es) m =
    ⊎_elim
    (λ (same : e.0 ≡ k). (e.1, inl (λ i. (same i, e.1))))
    (λ (later : In k (keys_of es)). let r = in_keys k es later in (r.0, inr r.1))
    m

pub keys_in : {K X : Type 0} (k : K) (v : X) (es : List (K × X)) → In (k, v) es → In k (keys_of es)
keys_in k v [] m = absurd m
keys_in k v (e ∷ es) m = ⊎_elim (λ (same : e ≡ (k, v)). inl (ap (λ p. p.0) same)) (λ (later : In (k, v) es). inr (keys_in k v es later)) m

-- the entries of a map are what its look-ups find
pub found_in : {K X : Type 0} {R : K → K → Ordering} → IsTotalOrder R → CmpEqualImpliesEq R → (m : BTreeMap K X) → IsOrdered R m → (k : K) (v : X) → get R m k ≡ Some v → In (k, v) m.entries
found_in o exact m s k v e = contains_in (k, v) m.entries ((btree_map_get_iff o exact m s k v).0 e)

pub in_found : {K X : Type 0} {R : K → K → Ordering} → IsTotalOrder R → CmpEqualImpliesEq R → (m : BTreeMap K X) → IsOrdered R m → (k : K) (v : X) → In (k, v) m.entries → get R m k ≡ Some v
in_found o exact m s k v i = (btree_map_get_iff o exact m s k v).1 (in_contains (k, v) m.entries i)

-- keys in order
module _ {K : Type 0} (c : K → K → Ordering) where
  pub each_after : (x : K) (xs : List K) → ((y : K) → In y xs → c x y ≡ Less) → AllByRecursion (λ y. c x y ≡ Less) xs
  each_after x [] all = tt
  each_after x (y ∷ ys) all = (all y (inl refl), each_after x ys (λ z m. all z (inr m)))

  pub after_each : (x : K) (xs : List K) → AllByRecursion (λ y. c x y ≡ Less) xs → (y : K) → In y xs → c x y ≡ Less
  after_each x [] all y m = absurd m
  after_each x (z ∷ zs) all y m = ⊎_elim (λ (e : z ≡ y). subst (λ (t : K). c x t ≡ Less) e all.0) (λ (later : In y zs). after_each x zs all.1 y later) m

  pub sorted_nil : IsStrictlySortedBy c []
  unfolding IsStrictlySortedBy
  sorted_nil = tt

  pub sorted_cons : (x : K) (xs : List K) → ((y : K) → In y xs → c x y ≡ Less) → IsStrictlySortedBy c xs → IsStrictlySortedBy c (x ∷ xs)
  unfolding IsStrictlySortedBy
  sorted_cons x xs all s = (each_after x xs all, s)

  pub sorted_first : (x : K) (xs : List K) → IsStrictlySortedBy c (x ∷ xs) → (y : K) → In y xs → c x y ≡ Less
  unfolding IsStrictlySortedBy
  sorted_first x xs s = after_each x xs s.0

  pub sorted_rest : (x : K) (xs : List K) → IsStrictlySortedBy c (x ∷ xs) → IsStrictlySortedBy c xs
  unfolding IsStrictlySortedBy
  sorted_rest x xs s = s.1

  pub sorted_append : (xs ys : List K) → IsStrictlySortedBy c xs → IsStrictlySortedBy c ys → ((x y : K) → In x xs → In y ys → c x y ≡ Less) → IsStrictlySortedBy c (xs ++ ys)
  sorted_append [] ys s t across = t
  sorted_append (x ∷ xs) ys s t across =
      sorted_cons x (xs ++ ys)
      (λ y m. ⊎_elim (λ (a : In y xs). sorted_first x xs s y a) (λ (b : In y ys). across x y (inl refl) b) (in_either y xs ys m))
      (sorted_append xs ys (sorted_rest x xs s) t (λ a b m n. across a b (inr m) n))
