-- One item of a list is changed: that of a number which no other has.
use Rattle.std.proofs.Common.{◌≡◌, ℕ, zero, suc, ◌<◌, ◌==◌, true, false, cond, List, [], ◌∷◌, length, get_or, map, set, sym, ap, ◌∙◌, subst, arith, nat_eq, refl}
use Rattle.std.specs.List.{All, HoldsAt, IsDistinct}
use Rattle.std.specs.List.Sorted.{IsStrictlyIncreasing}
use Rattle.std.proofs.lemmas.List.Elements.{All-from_recursion}
use Rattle.std.proofs.lemmas.List.{length-map, get_or-map}
use Rattle.std.proofs.lemmas.Map.Keys.{IsDistinct-head, IsDistinct-tail, sorted_from_strictly_increasing, IsDistinct-from_apart, below_from_sorted}

module _ {X : Type 0} (key : X → ℕ) (change : X → X) (number : ℕ) where
  abbrev pub changed : X → X
  changed x = cond (key x == number) (change x) x

  kept : (x : X) → (key x == number) ≡ false → x ≡ changed x
  kept x other = ap (λ b. cond b (change x) x) (sym other)

  pub map_none : (xs : List X) → All (λ x. (key x == number) ≡ false) xs → xs ≡ map changed xs
  map_none [] none = refl
  map_none (x ∷ xs) none = λ i. kept x (none 0 x (omega arith)) i ∷ map_none xs (λ k d h. none (suc k) d (omega arith)) i

  -- the item at k is the one of the number
  pub map_at : (xs : List X) (k : ℕ) (x : X) → IsDistinct nat_eq (map key xs) → k < length xs → x ≡ get_or xs k x → HoldsAt (λ y. key y ≡ number) xs k → set xs k (change x) ≡ map changed xs
  map_at [] k x once within is found = absurd (omega arith)
  map_at (y ∷ ys) zero x once within is found =
      let here : key y ≡ number = found x in
      let hit : (key y == number) ≡ true = grind (arith, here) in
      let first : change x ≡ changed y = ap change is ∙ ap (λ b. cond b (change y) y) (sym hit) in
      let others = IsDistinct-head nat_eq (key y) (map key ys) once in
      let rest : ys ≡ map changed ys = map_none ys (λ j d h.
      let apart : nat_eq (key y) (get_or (map key ys) j (key d)) ≡ false = All-from_recursion (λ z. nat_eq (key y) z ≡ false) (map key ys) others j (key d) (omega (arith, h, length-map ys key)) in
      grind (arith, apart, here, get_or-map key ys j d (key d) h)) in
      λ i. first i ∷ rest i
  map_at (y ∷ ys) (suc k) x once within is found =
      let others = IsDistinct-head nat_eq (key y) (map key ys) once in
      let apart : nat_eq (key y) (get_or (map key ys) k (key x)) ≡ false = All-from_recursion (λ z. nat_eq (key y) z ≡ false) (map key ys) others k (key x) (omega (arith, within, length-map ys key)) in
      let there : key (get_or ys k x) ≡ number = found x in
      let miss : (key y == number) ≡ false = grind (arith, apart, there, get_or-map key ys k x (key x) (omega (arith, within))) in
      let rest : set ys k (change x) ≡ map changed ys = map_at ys k x (IsDistinct-tail nat_eq (key y) (map key ys) once) (omega (arith, within)) is (λ d. found d) in
      λ i. kept y miss i ∷ rest i

  -- the same where the search went over an equal list
  pub changed_at : (xs seen : List X) (k : ℕ) (x : X) → seen ≡ xs → IsDistinct nat_eq (map key xs) → k < length seen → x ≡ get_or xs k x → HoldsAt (λ y. key y ≡ number) seen k → set xs k (change x) ≡ map changed xs
  changed_at xs seen k x same once within is found =
      map_at xs k x once (subst (λ (l : List X). k < length l) same within) is (subst (λ (l : List X). HoldsAt (λ y. key y ≡ number) l k) same found)

  pub changed_none : (xs seen : List X) → seen ≡ xs → All (λ x. (key x == number) ≡ false) seen → xs ≡ map changed xs
  changed_none xs seen same none = map_none xs (subst (λ (l : List X). All (λ x. (key x == number) ≡ false) l) same none)

-- what ascends differs
pub once_rising : (xs : List ℕ) → IsStrictlyIncreasing xs → IsDistinct nat_eq xs
once_rising xs up = IsDistinct-from_apart nat_eq xs (λ i j d g h. let below = below_from_sorted xs i j d (sorted_from_strictly_increasing xs up) g h in grind (arith, below))
