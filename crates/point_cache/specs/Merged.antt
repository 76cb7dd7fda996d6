-- How do the points of a batch come among those of a key?
use Rattle.std.specs.Prelude.{◌≡◌, ℤ, ◌+◌, ◌≤◌, ◌<ℤ◌, List, ◌∷◌, [], ◌++◌, length}
use Rattle.std.specs.List.{AllByRecursion}
use Rattle.point_model.specs.Rows.{Row}
use Rattle.point_cache.specs.Cached.{AreAscending, later, latest}

-- the points of both lists by ascending time: at one time that of the second, where it has one, and else that of the first
pub record IsUnion (first second union : List Row) : Type 0 where
  pub ascending : AreAscending union
  pub values : (time : ℤ) → latest union time ≡ later (latest first time) (latest second time)
  pub short : length union ≤ length first + length second

-- the points by ascending time, the later of two with one time alone
pub record IsOrdered (points ordered : List Row) : Type 0 where
  pub ascending : AreAscending ordered
  pub values : (time : ℤ) → latest ordered time ≡ latest points time
  pub short : length ordered ≤ length points

-- what was held before a point is appended, and then the point; what was held at its time is passed over
pub record PutsBehind (held : List Row) (point : Row) (behind old new : List Row) : Type 0 where
  pub ahead : List Row
  pub same : List Row
  pub seam : held ≡ ahead ++ (same ++ behind)
  pub before : AllByRecursion (λ row. row.0 <ℤ point.0) ahead
  pub equal : AllByRecursion (λ row. row.0 ≡ point.0) same
  pub later : AllByRecursion (λ row. point.0 <ℤ row.0) behind
  pub appends : new ≡ old ++ (ahead ++ point ∷ [])
