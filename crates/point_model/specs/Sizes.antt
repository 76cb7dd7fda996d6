-- How many bytes does the record of an entry have in a log?
use Rattle.std.specs.Prelude.{ℕ, ◌+◌, ◌^◌, Bool, false, List, [], ◌∷◌, length, if◌then◌else◌}
use Rattle.std.specs.Str.{bytes_eq}
use Rattle.tsdb_types.specs.declared.point.Point.{Point}
use Rattle.point_model.specs.Conditions.{Condition, True, Eq, Ne, And, Or}
use Rattle.point_model.specs.declared.deletion.Deletion.{Deletion}

-- the most that a record may have
abbrev pub most_bytes : ℕ
most_bytes = 2 ^ 30

-- a point in its run: its field behind its length, its time, its kind and its value
abbrev pub point_length : Point → ℕ
point_length point = length point.cell.field + 19

-- the head of a run of points of one series: the series behind its length, and how many they are
abbrev pub head_length : Point → ℕ
head_length point = length point.cell.series + 6

-- the first of these points goes on with the series
abbrev pub goes_on : Point → List Point → Bool
goes_on point [] = false
goes_on point (next ∷ points) = bytes_eq point.cell.series next.cell.series

-- each point, and one head for each run of points of one series
abbrev pub runs_length : List Point → ℕ
runs_length [] = 0
runs_length (point ∷ points) = point_length point + (if goes_on point points then 0 else head_length point) + runs_length points

-- The record of a write: its number in eight bytes, the client in four, what it is in one, how many runs in four, and the runs.
abbrev pub write_length : List Point → ℕ
write_length points = 17 + runs_length points

-- a byte for each part, and key and text behind their lengths
abbrev pub condition_length : Condition → ℕ
condition_length True = 1
condition_length (Eq key text) = 5 + (length key + length text)
condition_length (Ne key text) = 5 + (length key + length text)
condition_length (And first second) = 1 + (condition_length first + condition_length second)
condition_length (Or first second) = 1 + (condition_length first + condition_length second)

-- The record of a deletion: number, client and what it is as in a write, the measurement behind its length, the condition, and
-- both times.
abbrev pub deletion_length : Deletion → ℕ
deletion_length deletion = 31 + (length deletion.measurement + condition_length deletion.tags)
