-- What does a contract see of an index, which content has it, and what is asked of that?
use Rattle.std.specs.Prelude.{ℕ, ◌+◌, ◌≤◌, Bool, ◌&&◌, List, length, map}
use Rattle.std.specs.Str.{bytes_eq}
use Rattle.point_model.specs.Conditions.{Condition, meets}
use Rattle.index_lists.specs.declared.change.IndexChange.{IndexChange}
use Rattle.index_lists.specs.Listing.{Holds, Listing}
use Rattle.index_lists.specs.Pairs.{Pair}
use Rattle.index_lists.specs.Ready.{AreReady, Prepared}
use Rattle.index_lists.specs.Terms.{measurement_of}

-- The lists of the content, the changes that are staged, and those that were made and aren't in the log yet, both in their order.
pub record Index : Type 0 where
  pub lists : Listing
  pub staged : List IndexChange
  pub pending : List IndexChange

-- The pairs of series and field, none twice, are the content: an index that has one lists exactly its series.
abbrev pub HasContent : List Pair → Index → Type 0
HasContent pairs index = Holds pairs index.lists

-- a series is of the measurement, and its tags meet the condition
abbrev pub is_match : List ℕ → Condition → List ℕ → List ℕ → Bool
is_match measurement condition series field = bytes_eq (measurement_of series) measurement && meets condition series

-- the changes that are ready
abbrev pub changes_of : List Prepared → List IndexChange
changes_of staged = map (λ one. one.change) staged

-- An index has a content; its staged changes are ready to be made, and there is room to keep them for the log.
pub record IsKept (lists : Listing) (staged : List Prepared) (pending capacity : ℕ) : Type 0 where
  pub pairs : List Pair
  pub holds : Holds pairs lists
  pub ready : AreReady lists staged
  pub room : pending + length staged ≤ capacity
