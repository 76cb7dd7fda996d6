-- What was taken off the front of bytes, and what a run of one series is.
use Rattle.std.specs.Prelude.{◌≡◌, ◌≢◌, ℕ, List, [], ◌∷◌, ◌++◌, length}
use Rattle.std.specs.List.{flat_map, AllByRecursion}
use Rattle.tsdb_types.specs.declared.point.Point.{Point}
use Rattle.wal_store.specs.Form.{Group, group_bytes, point_bytes, points_of, IsGroup, IsPointOf}

-- so many points of the series were taken, and put behind the old ones
pub record TakesPoints (series : List ℕ) (count : ℕ) (bytes rest : List ℕ) (old new : List Point) : Type 0 where
  pub taken : List Point
  pub are : AllByRecursion (IsPointOf series) taken
  pub many : length taken ≡ count
  pub whole : bytes ≡ flat_map point_bytes taken ++ rest
  pub pushed : new ≡ old ++ taken

-- a group was taken, and its points were put behind the old ones
pub record TakesGroup (bytes rest : List ℕ) (old new : List Point) : Type 0 where
  pub group : Group
  pub is : IsGroup group
  pub whole : bytes ≡ group_bytes group ++ rest
  pub pushed : new ≡ old ++ group.points

-- the bytes are so many groups of these points
pub record AreGroupsOf (count : ℕ) (bytes : List ℕ) (points : List Point) : Type 0 where
  pub groups : List Group
  pub are : AllByRecursion IsGroup groups
  pub many : length groups ≡ count
  pub whole : bytes ≡ flat_map group_bytes groups
  pub all : points ≡ points_of groups

-- the points are of the series
abbrev pub AreOf : List ℕ → List Point → Type 0
AreOf series points = AllByRecursion (λ (point : Point). point.cell.series ≡ series) points

-- no point stands first, or one of another series
abbrev pub BeginsOther : List ℕ → List Point → Type 0
BeginsOther series [] = Unit {0}
BeginsOther series (point ∷ points) = point.cell.series ≢ series

-- the points begin with this run of the series, and it ends there
pub record IsRunFirst (series : List ℕ) (run behind points : List Point) : Type 0 where
  pub whole : points ≡ run ++ behind
  pub some : run ≢ []
  pub same : AreOf series run
  pub next : BeginsOther series behind
