-- What do the calls of a cache change?
use Rattle.std.specs.Prelude.{◌≡◌, ℕ, ◌+◌, ◌≤◌, ℤ, ◌&&◌, List, [], length, nat_eq, Option, Some, None, if◌then◌else◌}
use Rattle.std.specs.Cmp.Lexicographic.{pointwise}
use Rattle.tsdb_types.specs.declared.point.Point.{Point}
use Rattle.tsdb_types.specs.declared.value.Value.{Value}
use Rattle.point_cache.specs.declared.key_points.KeyRun.{KeyRun}
use Rattle.point_cache.specs.Cached.{Cached, KeysAscend, count, points_at, value_at, value_after, is_within}

-- the points of a batch are set in order, at most so many are added, and there is room for no further one
pub record SetsPoints (batch : List Point) (old new : Cached) : Type 0 where
  pub values : (key : List ℕ) (time : ℤ) → value_at new.runs key time ≡ value_after batch key time (value_at old.runs key time)
  pub counted : count new.runs ≤ count old.runs + length batch
  pub room : new.room ≡ None
  pub snapshot : new.snapshot ≡ old.snapshot
  pub tombs : new.tombs ≡ old.tombs

-- the value at a key and a time is taken away where the key is this one and the time from one to the other
abbrev pub value_without : List ℕ → ℤ → ℤ → List ℕ → ℤ → Option Value → Option Value
value_without own from to key time before = if pointwise nat_eq key own && is_within from to time then None else before

-- the points of a key from one time to another are taken away, none is added, and there is room for no batch
pub record TakesAway (own : List ℕ) (from to : ℤ) (old new : Cached) : Type 0 where
  pub values : (key : List ℕ) (time : ℤ) → value_at new.runs key time ≡ value_without own from to key time (value_at old.runs key time)
  pub counted : count new.runs ≤ count old.runs
  pub room : new.room ≡ None
  pub snapshot : new.snapshot ≡ old.snapshot
  pub tombs : new.tombs ≡ old.tombs

-- the runs become the snapshot, in the order of their keys, with nothing deleted of it, and nothing is left behind
pub record Freezes (old new : Cached) : Type 0 where
  pub frozen : List KeyRun
  pub snapshot : new.snapshot ≡ Some frozen
  pub points : (key : List ℕ) → points_at frozen key ≡ points_at old.runs key
  pub ordered : KeysAscend frozen
  pub counted : count frozen ≡ count old.runs
  pub runs : new.runs ≡ []
  pub room : new.room ≡ None
  pub tombs : new.tombs ≡ []
