-- What follows for a store that is alone?
use Rattle.std.specs.Prelude.{◌≡◌, ℕ, IsTrue, [], ◌∷◌, ◌++◌}
use Rattle.point_model.specs.declared.entry.Entry.{Entry}
use Rattle.store_trait.specs.Told.{Told, Keeps, OwnsAll}
use Rattle.store_trait.specs.Calls.Entry.{Accepts}

-- It has no entries but its own: a call that gives no number makes no entry, and one that is accepted makes that entry alone.
pub record AloneChangesItself : Type 0 where
  pub refused : (old new : Told) → Keeps old new → new.own ≡ old.own → IsTrue new.is_alone → OwnsAll old → new.history ≡ old.history
  pub accepted : (made : Entry) (number : ℕ) (old new : Told) → Keeps old new → Accepts made number old new → IsTrue new.is_alone → OwnsAll old
      → new.history ≡ old.history ++ made ∷ []
