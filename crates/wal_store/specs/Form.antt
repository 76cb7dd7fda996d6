-- Which bytes are the parts of an entry, and which parts can be written?
use Rattle.std.specs.Prelude.{◌≡◌, ◌≢◌, ℕ, ◌^◌, ◌<◌, ◌≤◌, List, [], ◌∷◌, ◌++◌, length, FitsSigned, if◌then◌else◌}
use Rattle.std.specs.Int.{w64}
use Rattle.std.specs.List.{flat_map, AllByRecursion}
use Rattle.std.specs.Str.{IsUtf8}
use Rattle.fixed_width.specs.Fields.{bytes_of_u16, bytes_of_u32, bytes_of_u64, bytes_of_i64}
use Rattle.tsdb_types.specs.Moments.{IsMoment}
use Rattle.tsdb_types.specs.Names.{IsName}
use Rattle.tsdb_types.specs.Series.{IsSeriesText}
use Rattle.tsdb_types.specs.declared.point.Point.{Point}
use Rattle.tsdb_types.specs.declared.value.Value.{Value}
use Rattle.tsdb_types.specs.declared.value.Value.TheVariants.{Int, Uint, Bool}

-- its length in two bytes, and the text
abbrev pub text_bytes : List ℕ → List ℕ
text_bytes text = bytes_of_u16 (length text) ++ text

-- a text whose length has room
pub record IsText (text : List ℕ) : Type 0 where
  pub utf8 : IsUtf8 text
  pub short : length text ≤ 65535

-- a name whose length has room
pub record IsNameText (text : List ℕ) : Type 0 where
  pub room : IsText text
  pub name : IsName text

-- the type of the value in one byte (1 integer, 2 Boolean, 4 unsigned), and the value in eight; a Boolean is 0 or 1
abbrev pub value_bytes : Value → List ℕ
value_bytes (Int number) = 1 ∷ bytes_of_i64 number
value_bytes (Uint number) = 4 ∷ bytes_of_u64 number
value_bytes (Bool truth) = 2 ∷ bytes_of_u64 (if truth then 1 else 0)

-- a value of 64 bits
abbrev pub IsValue : Value → Type 0
IsValue (Int number) = FitsSigned w64 number
IsValue (Uint number) = number < 2 ^ 64
IsValue (Bool truth) = Unit {0}

-- the field, the time in eight bytes, and the value
abbrev pub point_bytes : Point → List ℕ
point_bytes point = text_bytes point.cell.field ++ (bytes_of_i64 point.cell.time ++ value_bytes point.value)

-- a point of this series that has a place in a group
pub record IsPointOf (series : List ℕ) (point : Point) : Type 0 where
  pub of : point.cell.series ≡ series
  pub field : IsNameText point.cell.field
  pub time : IsMoment point.cell.time
  pub value : IsValue point.value

-- points of one series
pub record Group : Type 0 where
  pub series : List ℕ
  pub points : List Point

-- the text of the series, the count of points in four bytes, and one point behind the other
abbrev pub group_bytes : Group → List ℕ
group_bytes group = text_bytes group.series ++ (bytes_of_u32 (length group.points) ++ flat_map point_bytes group.points)

-- a group of one point at least, whose count has room
pub record IsGroup (group : Group) : Type 0 where
  pub text : IsText group.series
  pub series : IsSeriesText group.series
  pub some : group.points ≢ []
  pub many : length group.points < 2 ^ 32
  pub points : AllByRecursion (IsPointOf group.series) group.points

-- the count of groups in four bytes, and one behind the other
abbrev pub groups_bytes : List Group → List ℕ
groups_bytes groups = bytes_of_u32 (length groups) ++ flat_map group_bytes groups

-- one group at least, and their count has room
pub record AreGroups (groups : List Group) : Type 0 where
  pub some : groups ≢ []
  pub many : length groups < 2 ^ 32
  pub each : AllByRecursion IsGroup groups

-- the points of groups in their order
abbrev pub points_of : List Group → List Point
points_of groups = flat_map (λ (group : Group). group.points) groups
