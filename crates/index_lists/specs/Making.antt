-- What does making a change do to the lists, step by step?
use Rattle.std.specs.Prelude.{◌≡◌, ℕ, ◌+◌, ◌-◌, Bool, nat_eq, List, [], ◌∷◌, slice_get, slice_index_or, Some, set, if◌then◌else◌}
use Rattle.index_lists.specs.Listing.{Listed, Listing, Puts, Takes, is_listed}
use Rattle.index_lists.specs.Steps.{GivesRoom, StepsAt}

-- the first of the places, and those behind it
abbrev pub first_of : List ℕ → List ℕ
first_of [] = []
first_of (place ∷ places) = place ∷ []

abbrev pub others_of : List ℕ → List ℕ
others_of [] = []
others_of (place ∷ places) = places

-- whether the list at the first of the places has the id
abbrev pub IsThere : ℕ → List ℕ → List Listed → Bool → Type 0
IsThere id places lists there = (place : ℕ) (others : List ℕ) (listed : Listed) → places ≡ place ∷ others → slice_get lists place ≡ Some listed → there ≡ is_listed listed.ids id

-- The id is put into the lists at these places, and counted where it wasn't in the first.
pub record Adds (id : ℕ) (places : List ℕ) (old new : Listing) : Type 0 where
  pub there : Bool
  pub was : IsThere id places old.lists there
  pub lists : StepsAt (Puts id) places old.lists new.lists
  pub terms : new.terms ≡ old.terms
  pub counts : new.counts ≡ (if there then old.counts else set old.counts id (slice_index_or old.counts id 0 + 1))
  pub pairs : new.pairs ≡ (if there then old.pairs else old.pairs + 1)
  pub room : new.room ≡ old.room

-- The id is taken out of the list at the first place, and out of the others where no field is left.
pub record Removes (id : ℕ) (places : List ℕ) (old new : Listing) : Type 0 where
  pub mid : List Listed
  pub given : List Listed
  pub there : Bool
  pub was : IsThere id places old.lists there
  pub field : StepsAt (Takes id) (first_of places) old.lists mid
  pub gives : StepsAt GivesRoom places mid given
  pub others : StepsAt (Takes id) (if there then (if nat_eq (slice_index_or old.counts id 0) 1 then others_of places else []) else []) given new.lists
  pub terms : new.terms ≡ old.terms
  pub counts : new.counts ≡ (if there then set old.counts id (slice_index_or old.counts id 0 - 1) else old.counts)
  pub pairs : new.pairs ≡ (if there then old.pairs - 1 else old.pairs)
  pub room : new.room ≡ old.room

-- One field less is counted, and the id is taken out of the lists at these places where none is left.
pub record Forgets (id : ℕ) (places : List ℕ) (old new : Listing) : Type 0 where
  pub lists : StepsAt (Takes id) (if nat_eq (slice_index_or old.counts id 0) 1 then places else []) old.lists new.lists
  pub terms : new.terms ≡ old.terms
  pub counts : new.counts ≡ set old.counts id (slice_index_or old.counts id 0 - 1)
  pub pairs : new.pairs ≡ old.pairs - 1
  pub room : new.room ≡ old.room
