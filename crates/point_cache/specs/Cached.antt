-- What does a cache hold?
use Rattle.std.specs.Prelude.{◌≢◌, ℕ, ℤ, ◌<ℤ◌, int_le, Bool, ◌&&◌, not, List, [], ◌∷◌, map, filter, length, sum_by, nat_eq, Option, Some, None, if◌then◌else◌, ⊤}
use Rattle.std.specs.List.{AllByRecursion}
use Rattle.std.specs.List.Sorted.{IsStrictlySortedBy}
use Rattle.std.specs.Cmp.Lexicographic.{pointwise, slice_cmp}
use Rattle.std.specs.Ordering.{int_eq, nat_cmp}
use Rattle.tsdb_types.specs.Keys.{key_of}
use Rattle.tsdb_types.specs.declared.point.Point.{Point}
use Rattle.tsdb_types.specs.declared.value.Value.{Value}
use Rattle.point_model.specs.Rows.{Row}
use Rattle.tombstones.specs.Covered.{Tomb}
use Rattle.point_cache.specs.declared.key_points.KeyRun.{KeyRun}

-- the second where there is one, else the first
abbrev pub later : Option Value → Option Value → Option Value
later first None = first
later first (Some value) = Some value

-- the value at a time: the later of two points with one time wins
abbrev pub latest : List Row → ℤ → Option Value
latest [] time = None
latest (row ∷ rows) time = later (if int_eq time row.0 then Some row.1 else None) (latest rows time)

-- the points of a key, none where no run has it
abbrev pub points_at : List KeyRun → List ℕ → List Row
points_at [] key = []
points_at (run ∷ runs) key = if pointwise nat_eq key run.key then run.points else points_at runs key

-- the value at a key and a time
abbrev pub value_at : List KeyRun → List ℕ → ℤ → Option Value
value_at runs key time = latest (points_at runs key) time

-- each point is before those that follow it
abbrev pub AreAscending : List Row → Type 0
AreAscending [] = ⊤
AreAscending (row ∷ rows) = AllByRecursion (λ behind. row.0 <ℤ behind.0) rows × AreAscending rows

-- a key has points, in the order of their times, each time once
pub record IsRun (run : KeyRun) : Type 0 where
  pub some : run.points ≢ []
  pub ascending : AreAscending run.points

-- no key stands twice
abbrev pub AreApart : List KeyRun → Type 0
AreApart [] = ⊤
AreApart (run ∷ runs) = AllByRecursion (λ other. run.key ≢ other.key) runs × AreApart runs

-- a finite map from keys and times to values: each key once, each with points, each time once
pub record AreRuns (runs : List KeyRun) : Type 0 where
  pub each : AllByRecursion IsRun runs
  pub apart : AreApart runs

-- how many points there are
abbrev pub count : List KeyRun → ℕ
count runs = sum_by (λ run. length run.points) runs

-- the keys ascend in the order of their bytes
abbrev pub KeysAscend : List KeyRun → Type 0
KeysAscend runs = IsStrictlySortedBy (slice_cmp nat_cmp) (map (λ run. run.key) runs)

-- from one time to another, both included
abbrev pub is_within : ℤ → ℤ → ℤ → Bool
is_within from to time = int_le from time && int_le time to

-- the points from one time to another
abbrev pub rows_within : ℤ → ℤ → List Row → List Row
rows_within from to rows = filter (λ row. is_within from to row.0) rows

-- the points before the first of two times, and those behind the second
abbrev pub rows_outside : ℤ → ℤ → List Row → List Row
rows_outside from to rows = filter (λ row. not (is_within from to row.0)) rows

-- the point is at this key and time
abbrev pub is_at : List ℕ → ℤ → Point → Bool
is_at key time point = pointwise nat_eq key (key_of point.cell.series point.cell.field) && int_eq time point.cell.time

-- the value at a key and a time once the points are set in order, by the value before
abbrev pub value_after : List Point → List ℕ → ℤ → Option Value → Option Value
value_after [] key time before = before
value_after (point ∷ points) key time before = value_after points key time (if is_at key time point then Some point.value else before)

-- What a contract sees of a cache: its runs, the batch that it has room for, and beside them a snapshot, where one
-- stands, with what is deleted of it.
pub record Cached : Type 0 where
  pub runs : List KeyRun
  pub room : Option (List Point)
  pub snapshot : Option (List KeyRun)
  pub tombs : List Tomb
