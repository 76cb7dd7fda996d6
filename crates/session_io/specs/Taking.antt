-- What is handed out of what is held?
use Rattle.std.specs.Prelude.{◌≡◌, List, ◌∷◌, ◌++◌, All, Option, Some, None, ⊤}

-- The first of those that are named so is taken out, as it was held.
pub record TakesFirst {H : Type 0} (Named : H → Type 0) (taken : H) (old new : List H) : Type 0 where
  pub before : List H
  pub after : List H
  pub was : old ≡ before ++ taken ∷ after
  pub is : new ≡ before ++ after
  pub first : All (λ held. ¬ (Named held)) before

-- a step of what is held, where a desk tells it; it goes on to tell it
abbrev pub Told : {H : Type 0} → (List H → List H → Type 0) → Option (List H) → Option (List H) → Type 0
Told step None None = ⊤
Told step None (Some new) = ⊥
Told step (Some old) None = ⊥
Told step (Some old) (Some new) = step old new
