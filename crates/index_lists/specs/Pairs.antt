-- What does an index hold, and what does a change make of that?
use Rattle.std.specs.Prelude.{◌≡◌, ℕ, Bool, not, ◌&&◌, nat_eq, List, [], ◌∷◌, if◌then◌else◌, ⊤}
use Rattle.std.specs.List.{AllByRecursion, filter, list_any}
use Rattle.std.specs.Str.{bytes_eq}
use Rattle.index_lists.specs.declared.change.IndexChange.{IndexChange}

-- a series with its id, and a field in which it has points
pub record Pair : Type 0 where
  pub id : ℕ
  pub series : List ℕ
  pub field : List ℕ

-- the pair that a change adds or removes
abbrev pub pair_of : IndexChange → Pair
pair_of change = record { id = change.id; series = change.series; field = change.field }

-- the pairs are of one series, by its id, and of one field
abbrev pub is_same : Pair → Pair → Bool
is_same pair other = nat_eq pair.id other.id && bytes_eq pair.field other.field

-- the pair is one of these
abbrev pub is_in : List Pair → Pair → Bool
is_in pairs pair = list_any (is_same pair) pairs

-- a pair that is there stays as it is
abbrev pub with_pair : Pair → List Pair → List Pair
with_pair pair pairs = if is_in pairs pair then pairs else pair ∷ pairs

-- one that isn't there changes nothing
abbrev pub without_pair : Pair → List Pair → List Pair
without_pair pair pairs = filter (λ other. not (is_same pair other)) pairs

-- the pairs after a change
abbrev pub after : IndexChange → List Pair → List Pair
after change pairs = if change.add then with_pair (pair_of change) pairs else without_pair (pair_of change) pairs

-- the pairs after changes, in their order
abbrev pub after_all : List IndexChange → List Pair → List Pair
after_all [] pairs = pairs
after_all (change ∷ changes) pairs = after_all changes (after change pairs)

-- the pairs of one id are of one series, that of this pair
abbrev pub Agrees : List Pair → Pair → Type 0
Agrees pairs pair = AllByRecursion (λ other. other.id ≡ pair.id → other.series ≡ pair.series) pairs

-- the pairs of this pair's series are of its id
abbrev pub IsAlone : List Pair → Pair → Type 0
IsAlone pairs pair = AllByRecursion (λ other. other.series ≡ pair.series → other.id ≡ pair.id) pairs

-- a change that may be made of the pairs: its id has one series, and its series one id
abbrev pub Suits : List Pair → IndexChange → Type 0
Suits pairs change = Agrees pairs (pair_of change) × IsAlone pairs (pair_of change)

-- changes that may be made of the pairs, in their order
abbrev pub MayChange : List Pair → List IndexChange → Type 0
MayChange pairs [] = ⊤
MayChange pairs (change ∷ changes) = Suits pairs change × MayChange (after change pairs) changes
