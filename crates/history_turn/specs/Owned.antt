-- When lists have the same items, whatever their order.
use Rattle.std.specs.Prelude.{◌≡◌, ℕ, ◌+◌, ◌≤◌, List, [], ◌∷◌, Bool, cond}

-- the weights of the items, added up; an item that stands there twice counts twice
abbrev pub weigh : {A : Type 0} → (A → ℕ) → List A → ℕ
weigh weight [] = 0
weigh weight (x ∷ xs) = weight x + weigh weight xs

-- each item is as often in xs as in ys, since the lists weigh the same however items are weighed
pub record SameItems {A : Type 0} (xs ys : List A) : Type 0 where
  pub same : (weight : A → ℕ) → weigh weight xs ≡ weigh weight ys

-- each item is at most as often in xs as in ys
pub record IsAmong {A : Type 0} (xs ys : List A) : Type 0 where
  pub most : (weight : A → ℕ) → weigh weight xs ≤ weigh weight ys

-- What was added to `found`, or taken out, to make `left` was added to `mine`, or taken out, to make `mine'`.
pub record SameChange {A : Type 0} (found left mine mine' : List A) : Type 0 where
  pub same : (weight : A → ℕ) → weigh weight left + weigh weight mine ≡ weigh weight found + weigh weight mine'

-- the list without the first item that passes the test; the same list where none does
abbrev pub without : {A : Type 0} → (A → Bool) → List A → List A
without test [] = []
without test (x ∷ xs) = cond (test x) xs (x ∷ without test xs)
