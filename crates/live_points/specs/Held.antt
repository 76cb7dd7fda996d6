-- Which points do the runs of a cache hold?
use Rattle.std.specs.Prelude.{ℕ, Bool, nat_eq, List, [], ◌∷◌, map, take, drop, Option, Some, None, if◌then◌else◌}
use Rattle.std.specs.Cmp.Lexicographic.{pointwise}
use Rattle.tsdb_types.specs.Keys.{mark, key_of}
use Rattle.tsdb_types.specs.Values.{kind_of}
use Rattle.tsdb_types.specs.declared.point.Point.{Point}
use Rattle.tsdb_types.specs.declared.value.Kind.{Kind}
use Rattle.point_model.specs.Cursors.{Key}
use Rattle.point_model.specs.Histories.{with_points}
use Rattle.point_model.specs.Points.{Points, no_points}
use Rattle.point_model.specs.Rows.{Row}
use Rattle.point_cache.specs.declared.key_points.KeyRun.{KeyRun}
use Rattle.point_cache.specs.Cached.{points_at}

-- the mark stands at the front of the bytes
abbrev pub begins_with_mark : List ℕ → Bool
begins_with_mark bytes = pointwise nat_eq (take 4 bytes) mark

-- what stands before the first mark, and what behind it
abbrev pub before_mark : List ℕ → List ℕ
before_mark [] = []
before_mark (byte ∷ bytes) = if begins_with_mark (byte ∷ bytes) then [] else byte ∷ before_mark bytes

abbrev pub behind_mark : List ℕ → List ℕ
behind_mark [] = []
behind_mark (byte ∷ bytes) = if begins_with_mark (byte ∷ bytes) then drop 4 (byte ∷ bytes) else behind_mark bytes

-- the series and the field that a composite key is cut into
abbrev pub cut : List ℕ → Key
cut bytes = (before_mark bytes, behind_mark bytes)

-- the composite key of a series and a field
abbrev pub composite : Key → List ℕ
composite key = key_of key.0 key.1

-- a row of a key, as a point
abbrev pub point_of : List ℕ → Row → Point
point_of bytes row = record { cell = record { time = row.0; series = before_mark bytes; field = behind_mark bytes }; value = row.1 }

-- the points of all runs
abbrev pub points_of : List KeyRun → Points
points_of [] = no_points
points_of (run ∷ runs) = with_points (points_of runs) (map (point_of run.key) run.points)

abbrev pub first_kind : List Row → Option Kind
first_kind [] = None
first_kind (row ∷ rows) = Some (kind_of row.1)

-- the kind of the points that a key has; none where it has no points
abbrev pub kind_at : List KeyRun → Key → Option Kind
kind_at runs key = first_kind (points_at runs (composite key))
