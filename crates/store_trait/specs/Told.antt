-- What does a store tell of itself, and what may a call change of it?
use Rattle.std.specs.Prelude.{◌≡◌, ◌⊎◌, ℕ, ◌+◌, ◌≤◌, Bool, IsTrue, List, [], ◌∷◌, ◌++◌, length, sum_by, Contains, Option}
use Rattle.point_model.specs.declared.entry.Entry.{Entry}
use Rattle.point_model.specs.Histories.{State, state_after}
use Rattle.point_model.specs.declared.entry.Entry.TheVariants.{Write, Delete}

-- The limits of a store, and what it held of what they limit at its start: the points in the cache and in a snapshot of
-- it, and the texts of the series.
pub record Limits : Type 0 where
  pub cached : ℕ
  pub most_cached : ℕ
  pub series : List (List ℕ)
  pub most_series : ℕ

-- an entry that was refused, behind the number of the last entry then
abbrev pub Attempt : Type 0
Attempt = ℕ × Entry

-- What a store tells.
pub record Told : Type 0 where
  -- the client that its writes are of
  pub client : ℕ
  -- the points and the number that it began with
  pub start : State
  -- whether these are the points that it has: it has no disk, or one that tells and was sound
  pub tells : Bool
  -- whether no other client adds entries
  pub is_alone : Bool
  -- none of a store without limits
  pub limits : Option Limits
  -- the entries since the start that it knows, its own and those of other clients
  pub history : List Entry
  -- the numbers of its own entries
  pub own : List ℕ
  -- how many series it holds, where it has limits
  pub series : ℕ
  -- the loans that are out: one for each view that was begun and not ended
  pub out : List ℕ
  -- the entries that it was asked for and refused by a fault or for want of memory, each with its place: a crash may leave one of them,
  -- behind exactly the entries up to that number
  pub tried : List Attempt

-- the points and the number behind all entries that it knows
abbrev pub state_now : Told → State
state_now told = state_after told.start told.history

-- no entry has a greater number
abbrev pub last_number : ℕ
last_number = 9223372036854775807

-- the numbers of the entries, from this one on
abbrev pub numbers_from : ℕ → List Entry → List ℕ
numbers_from number [] = []
numbers_from number (entry ∷ entries) = number ∷ numbers_from (number + 1) entries

-- each entry that it knows is its own, once
abbrev pub OwnsAll : Told → Type 0
OwnsAll told = told.own ≡ numbers_from (told.start.number + 1) told.history

-- The later history begins with the earlier one.
pub record IsLater (old new : List Entry) : Type 0 where
  pub since : List Entry
  pub begins : new ≡ old ++ since

-- What every call keeps. Entries of other clients may come in between, but to a store that is alone.
pub record Keeps (old new : Told) : Type 0 where
  pub client : new.client ≡ old.client
  pub start : new.start ≡ old.start
  pub tells : new.tells ≡ old.tells
  pub is_alone : new.is_alone ≡ old.is_alone
  pub alone : IsTrue new.is_alone → OwnsAll old → OwnsAll new
  pub limits : new.limits ≡ old.limits
  pub history : IsLater old.history new.history
  pub series : old.series ≤ new.series

-- No entry was made or tried, and no view begun or ended.
pub record IsAlike (old new : Told) : Type 0 where
  pub own : new.own ≡ old.own
  pub out : new.out ≡ old.out
  pub tried : new.tried ≡ old.tried

-- Of the entries that are told as tried each was told so before, or it is the one asked for, which may have been tried.
abbrev pub TriesAtMost : Attempt → Type 0 → List Attempt → List Attempt → Type 0
TriesAtMost asked may old new = (attempt : Attempt) → Contains new attempt → Contains old attempt ⊎ (may × (asked ≡ attempt))

-- An entry was refused behind all entries that the store then knows: none was made, and no view begun or ended.
pub record Refuses (asked : Entry) (may_be_tried : Type 0) (old new : Told) : Type 0 where
  pub own : new.own ≡ old.own
  pub out : new.out ≡ old.out
  pub tried : TriesAtMost ((state_now new).number, asked) may_be_tried old.tried new.tried

-- how many points the entries wrote
abbrev pub points_in : Entry → ℕ
points_in (Write client points) = length points
points_in (Delete client deletion) = 0

abbrev pub points_written : List Entry → ℕ
points_written history = sum_by points_in history
