-- A list that is cut at two places.
use Rattle.std.proofs.Common.{◌≡◌, ◌⊎◌, ⊎_elim, inl, inr, List, [], ◌∷◌, ◌++◌, drop, refl, sym, ap, ◌∙◌}

abbrev head_or : {X : Type 0} → X → List X → X
head_or d [] = d
head_or d (x ∷ xs) = x

-- at one place, or the first before the second, or behind it
abbrev pub AreCuts : {X : Type 0} → List X → X → List X → X → Type 0
AreCuts {X} xs x zs z = ((xs ≡ zs) × (x ≡ z)) ⊎ ((more : List X) × (zs ≡ xs ++ x ∷ more)) ⊎ ((more : List X) × (xs ≡ zs ++ z ∷ more))

one_more : {X : Type 0} (u w : X) (xs : List X) (x : X) (zs : List X) (z : X) → u ≡ w → AreCuts xs x zs z → AreCuts (u ∷ xs) x (w ∷ zs) z
one_more u w xs x zs z head cuts = ⊎_elim
    (λ same. inl ((λ i. head i ∷ same.0 i), same.1))
    (λ apart. inr (⊎_elim
    (λ before. inl (before.0, (λ i. sym head i ∷ before.1 i)))
    (λ behind. inr (behind.0, (λ i. head i ∷ behind.1 i)))
    apart))
    cuts

pub two_cuts : {X : Type 0} (xs : List X) (x : X) (ys : List X) (zs : List X) (z : X) (ws : List X) → xs ++ x ∷ ys ≡ zs ++ z ∷ ws → AreCuts xs x zs z
two_cuts [] x ys [] z ws is = inl (refl, ap (head_or x) is)
two_cuts [] x ys (w ∷ zs) z ws is = inr (inl (zs, (λ i. sym (ap (head_or x) is) i ∷ zs)))
two_cuts (u ∷ xs) x ys [] z ws is = inr (inr (xs, (λ i. ap (head_or u) is i ∷ xs)))
two_cuts (u ∷ xs) x ys (w ∷ zs) z ws is = one_more u w xs x zs z (ap (head_or u) is) (two_cuts xs x ys zs z ws (ap (drop 1) is))
