-- What holds of the fields of a cache?
use Rattle.std.specs.Prelude.{◌≡◌, ℕ, ◌+◌, ℤ, ◌≤◌, List, [], take, drop, length, Option, None, Some}
use Rattle.std.specs.List.{AllByRecursion}
use Rattle.tsdb_types.specs.declared.point.Point.{Point}
use Rattle.point_cache.specs.declared.key_points.KeyRun.{KeyRun}
use Rattle.point_cache.specs.Cached.{IsRun, KeysAscend, count, latest, value_after}
use Rattle.point_cache.specs.Staged.{Entry, Staging, AreSettled, WillHave, lives, next_count, next_value, plain, staged_at}

-- what is staged sets the points, in order and settled, and is at most so many points more
pub record HasRoom (points : List Point) (entries : List Entry) : Type 0 where
  pub values : (key : List ℕ) (time : ℤ) → next_value entries key time ≡ value_after points key time (latest (staged_at entries key).live time)
  pub some : WillHave entries
  pub settled : AreSettled entries
  pub fewer : next_count entries ≤ count (lives entries) + length points

-- nothing is staged, or what the batch wants
abbrev pub RoomFor : Option (List Point) → ℕ → List Entry → Type 0
RoomFor None keys entries = entries ≡ plain (take keys (lives entries))
RoomFor (Some points) keys entries = HasRoom points entries

-- a snapshot's keys ascend, each with points, and these are so many
pub record IsSnapshot (points : ℕ) (runs : List KeyRun) : Type 0 where
  pub ordered : KeysAscend runs
  pub each : AllByRecursion IsRun runs
  pub counted : points ≡ count runs

-- there is a snapshot with so many points, or none and no points
abbrev pub HasSnapshot : ℕ → Option (List KeyRun) → Type 0
HasSnapshot points None = points ≡ 0
HasSnapshot points (Some runs) = IsSnapshot points runs

-- The first keys have points, those behind them have none.
pub record IsCache (runs : Staging) (keys : ℕ) (batch : Option (List Point)) (points : ℕ) (frozen : Option (List KeyRun)) : Type 0 where
  pub within : keys ≤ length runs.entries
  pub each : AllByRecursion IsRun (take keys (lives runs.entries))
  pub empty : AllByRecursion (λ run. run.points ≡ []) (drop keys (lives runs.entries))
  pub room : RoomFor batch keys runs.entries
  pub snapshot : HasSnapshot points frozen
