-- Where does an id stand among ascending ones?
use Rattle.std.specs.Prelude.{ℕ, ◌<◌, ◌≤◌, List, length, slice_index_or}

-- the ids before the place are less, and those from there on greater
pub record IsPlaceFor (id place : ℕ) (ids : List ℕ) : Type 0 where
  pub within : place ≤ length ids
  pub before : (k : ℕ) → k < place → slice_index_or ids k 0 < id
  pub behind : (k : ℕ) → place ≤ k → k < length ids → id < slice_index_or ids k 0
