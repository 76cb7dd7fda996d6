-- What do the steps of staging and making a change do to the terms and their lists?
use Rattle.std.specs.Prelude.{◌≡◌, ℕ, zero, suc, ◌+◌, ◌≤◌, nat_eq, List, [], ◌++◌, map, count_by, slice_get, Some, ◌⊎◌}
use Rattle.std.specs.List.{AllByRecursion}
use Rattle.index_lists.specs.declared.term.Term.{Term}
use Rattle.index_lists.specs.Listing.{IsKnown, Listed}

-- a list without ids
abbrev pub no_ids : Listed
no_ids = record { ids = []; room = 0 }

-- Terms that had no place stand behind the others, with empty lists.
pub record Grows (terms : List Term) (lists : List Listed) (terms' : List Term) (lists' : List Listed) : Type 0 where
  pub more : List Term
  pub terms_are : terms' ≡ terms ++ more
  pub lists_are : lists' ≡ lists ++ map (λ term. no_ids) more
  pub fresh : AllByRecursion (λ term. IsKnown terms term → ⊥) more

-- what a list becomes by as many steps
abbrev pub Times : (Listed → Listed → Type 0) → ℕ → Listed → Listed → Type 0
Times Step zero old new = new ≡ old
Times Step (suc n) old new = (mid : Listed) × Times Step n old mid × Step mid new

-- each list made one step for each time that its place is among these
abbrev pub StepsAt : (Listed → Listed → Type 0) → List ℕ → List Listed → List Listed → Type 0
StepsAt Step places lists lists' =
    (place : ℕ) (new : Listed) → slice_get lists' place ≡ Some new
    → (old : Listed) × (slice_get lists place ≡ Some old) × Times Step (count_by (nat_eq place) places) old new

-- room for one id more is made, or for one less
abbrev pub MakesRoom : Listed → Listed → Type 0
MakesRoom old new = (new.ids ≡ old.ids) × (old.room + 1 ≤ new.room)

abbrev pub GivesRoom : Listed → Listed → Type 0
GivesRoom old new = (new.ids ≡ old.ids) × (old.room ≤ new.room + 1)

-- no list has other ids, and none has less room
abbrev pub KeepsIds : List Listed → List Listed → Type 0
KeepsIds lists lists' =
    (place : ℕ) (new : Listed) → slice_get lists' place ≡ Some new
    → (old : Listed) × (slice_get lists place ≡ Some old) × (new.ids ≡ old.ids) × (old.room ≤ new.room)

-- there is as much room at each place as it stands among these
abbrev pub HaveRoom : List ℕ → List Listed → Type 0
HaveRoom places lists = (place : ℕ) (listed : Listed) → slice_get lists place ≡ Some listed → count_by (nat_eq place) places ≤ listed.room

-- the ids are those of the term's list, or there are none and the term has no place
abbrev pub HasIds : List Term → List Listed → Term → List ℕ → Type 0
HasIds terms lists term ids =
    ((place : ℕ) × (listed : Listed) × (slice_get terms place ≡ Some term) × (slice_get lists place ≡ Some listed) × (ids ≡ listed.ids))
    ⊎ ((IsKnown terms term → ⊥) × (ids ≡ []))
