-- What does staging changes, or forgetting them, do to the lists and to what is ready?
use Rattle.std.specs.Prelude.{◌≡◌, Bool, not, List, [], ◌∷◌, ◌++◌, if◌then◌else◌}
use Rattle.index_lists.specs.declared.change.IndexChange.{IndexChange}
use Rattle.index_lists.specs.Listing.{Holds, Listing}
use Rattle.index_lists.specs.Pairs.{Pair, after, is_in, pair_of}
use Rattle.index_lists.specs.Ready.{AreReady, Prepared}
use Rattle.series_index.specs.Index.{changes_of}

-- the change adds a pair that isn't there, or removes one that is
abbrev pub is_change : IndexChange → List Pair → Bool
is_change change pairs = if change.add then not (is_in pairs (pair_of change)) else is_in pairs (pair_of change)

-- those of the changes, made in their order, that change the pairs before them
abbrev pub changing : List IndexChange → List Pair → List IndexChange
changing [] pairs = []
changing (change ∷ changes) pairs = if is_change change pairs then change ∷ changing changes (after change pairs) else changing changes (after change pairs)

-- These changes are ready behind those that were, and the content is as it was.
pub record Stages (changes : List IndexChange) (old new : Listing) (was are : List Prepared) : Type 0 where
  pub added : List Prepared
  pub behind : are ≡ was ++ added
  pub changes_are : changes_of added ≡ changes
  pub ready : AreReady old was → AreReady new are
  pub content : (pairs : List Pair) → Holds pairs old → Holds pairs new

-- The last of the changes are ready no more, those in front of them are, and the content is as it was.
pub record Unstages (old new : Listing) (was are : List Prepared) : Type 0 where
  pub gone : List Prepared
  pub front : was ≡ are ++ gone
  pub ready : AreReady old was → AreReady new are
  pub content : (pairs : List Pair) → Holds pairs old → Holds pairs new
