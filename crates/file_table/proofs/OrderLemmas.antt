-- Lists in order: one item more, and an item that isn't there.
use Rattle.std.proofs.Common.{◌≡◌, ℕ, ◌+◌, ◌<◌, ◌≤◌, ◌==◌, List, [], ◌∷◌, ◌++◌, length, insert, get_or, take, ap, ◌∙◌, append_assoc, sym, subst, arith, false, ⊎_elim}
use Rattle.std.specs.List.{All, AllWithin, flat_map}
use Rattle.std.specs.List.Sorted.{IsPermutation, IsNonDecreasingBy}
use Rattle.std.proofs.lemmas.List.Sorted.{IsNonDecreasingBy-insert, IsPermutation-cons, IsPermutation-trans, IsPermutation-append_comm, IsPermutation-append_left, IsPermutation-append_right}
use Rattle.std.proofs.lemmas.Bool.{cases_lt}
use Rattle.std.proofs.lemmas.List.{append-nil, take_more, get_or_default}
use Rattle.std.proofs.lemmas.Grind.{flat_map-append}

-- an item put behind all that are less
pub ordered_by_insert : {X : Type 0} (n : X → ℕ) (xs seen ys : List X) (i : ℕ) (x : X) → seen ≡ xs → IsNonDecreasingBy n xs → i ≤ length seen
    → AllWithin (λ y. n y < n x) seen 0 i → AllWithin (λ y. n x ≤ n y) seen i (length seen) → ys ≡ insert xs i x → IsNonDecreasingBy n ys
ordered_by_insert {X} n xs seen ys i x same up within below others is =
    let up' : IsNonDecreasingBy n seen = subst (IsNonDecreasingBy n) (sym same) up in
    let put : IsNonDecreasingBy n (insert seen i x) = IsNonDecreasingBy-insert n seen i x up' within (λ k d h. let b = below k d (omega arith) h in omega arith) others in
    subst (IsNonDecreasingBy n) (sym is) (subst (λ (zs : List X). IsNonDecreasingBy n (insert zs i x)) same put)

-- two items more, one after the other
pub permuted_twice : {X : Type 0} (x y : X) (xs ys zs : List X) → IsPermutation (y ∷ xs) ys → IsPermutation (x ∷ ys) zs → IsPermutation (x ∷ y ∷ xs) zs
permuted_twice x y xs ys zs first second = IsPermutation-trans (x ∷ y ∷ xs) (x ∷ ys) zs (IsPermutation-cons x (y ∷ xs) ys first) second

-- the pieces of one item more
pub permuted_pieces : {X Y : Type 0} (f : X → List Y) (xs : List X) (i : ℕ) (d : X) (old mid new : List Y) → i < length xs
    → IsPermutation (flat_map f (take i xs) ++ old) mid → IsPermutation (f (get_or xs i d) ++ mid) new → IsPermutation (flat_map f (take (i + 1) xs) ++ old) new
permuted_pieces {X} {Y} f xs i d old mid new within so_far one =
    let done : List Y = flat_map f (take i xs) in
    let piece : List Y = f (get_or xs i d) in
    let longer : flat_map f (take (i + 1) xs) ++ old ≡ (done ++ piece) ++ old =
    ap (λ (l : List X). flat_map f l ++ old) (take_more xs i d within)
    ∙ ap (λ (l : List Y). l ++ old) (flat_map-append f (take i xs) (get_or xs i d ∷ []) ∙ ap (λ (l : List Y). done ++ l) (append-nil piece)) in
    let turned : IsPermutation ((done ++ piece) ++ old) ((piece ++ done) ++ old) = IsPermutation-append_left old (done ++ piece) (piece ++ done) (IsPermutation-append_comm done piece) in
    let moved : IsPermutation (piece ++ (done ++ old)) (piece ++ mid) = IsPermutation-append_right piece (done ++ old) mid so_far in
    subst (λ (l : List Y). IsPermutation l new) (sym longer)
    (IsPermutation-trans ((done ++ piece) ++ old) ((piece ++ done) ++ old) new turned
    (subst (λ (l : List Y). IsPermutation l new) (sym (append_assoc piece done old)) (IsPermutation-trans (piece ++ (done ++ old)) (piece ++ mid) new moved one)))

-- numbers that differ
pub differ : (a b : ℕ) → (a ≡ b → ⊥) → (a == b) ≡ false
differ a b not = grind (arith, not)

-- in a list in order no item has the number, where the first that isn't less hasn't
pub none_there : {X : Type 0} (n : X → ℕ) (xs : List X) (number at : ℕ) (e : X) → IsNonDecreasingBy n xs → at < length xs
    → AllWithin (λ x. n x < number) xs 0 at → AllWithin (λ x. number ≤ n x) xs at (length xs) → (n (get_or xs at e) ≡ number → ⊥) → All (λ x. (n x == number) ≡ false) xs
none_there n xs number at e up within less others other k d h = differ (n (get_or xs k d)) number (λ is.
    ⊎_elim
    (λ before. omega (arith, less k d (omega arith) before, is))
    (λ behind. other (omega (arith, others at e (omega arith) within, up at k e behind h, is, ap n (get_or_default xs k e d h))))
    (cases_lt k at))
