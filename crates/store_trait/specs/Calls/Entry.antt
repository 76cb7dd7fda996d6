-- What does a store tell once it made an entry?
use Rattle.std.specs.Prelude.{◌≡◌, ℕ, ◌≤◌, IsTrue, List, [], ◌∷◌, ◌++◌, ⊤}
use Rattle.point_model.specs.declared.entry.Entry.{Entry}
use Rattle.point_model.specs.declared.entry.Entry.TheVariants.{Write, Delete}
use Rattle.point_model.specs.Acceptance.{IsAccepted}
use Rattle.point_model.specs.Histories.{state_after}
use Rattle.point_model.specs.Points.{Points}
use Rattle.store_trait.specs.Told.{Told, IsLater, state_now, last_number}

-- the points let the entry come: a batch where they accept it, a deletion always
abbrev pub TakesEntry : Points → Entry → Type 0
TakesEntry points (Write client written) = IsAccepted points written
TakesEntry points (Delete client deletion) = ⊤

-- The history ends with this entry, and its number is the one that is given. The points before it let it come.
pub record Accepts (made : Entry) (number : ℕ) (old new : Told) : Type 0 where
  pub before : List Entry
  pub later : IsLater old.history before
  pub entry : new.history ≡ before ++ made ∷ []
  pub accepted : IsTrue old.tells → TakesEntry (state_after old.start before).points made
  pub given : number ≡ (state_now new).number
  pub limit : number ≤ last_number
  pub own : new.own ≡ old.own ++ number ∷ []
  pub out : new.out ≡ old.out
  pub tried : new.tried ≡ old.tried
