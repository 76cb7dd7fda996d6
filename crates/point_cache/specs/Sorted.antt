-- How is a batch brought into the order of time?
use Rattle.std.specs.Prelude.{◌≡◌, ℤ, ◌≤ℤ◌, int_lt, Bool, true, List, [], ◌∷◌, ◌++◌, length, ◌≤◌, Option, Some, None, if◌then◌else◌, ⊤}
use Rattle.std.specs.List.{AllByRecursion}
use Rattle.std.specs.Ordering.{int_eq}
use Rattle.tsdb_types.specs.declared.value.Value.{Value}
use Rattle.point_model.specs.Rows.{Row}
use Rattle.point_cache.specs.Cached.{latest, AreAscending}

-- the value of the first point at a time
abbrev pub first_at : List Row → ℤ → Option Value
first_at [] time = None
first_at (row ∷ rows) time = if int_eq time row.0 then Some row.1 else first_at rows time

-- the time is behind the last one, where there is one
abbrev pub is_later : Option ℤ → ℤ → Bool
is_later None time = true
is_later (Some last) time = int_lt last time

-- no point is behind one that follows it
abbrev pub AreRising : List Row → Type 0
AreRising [] = ⊤
AreRising (row ∷ rows) = AllByRecursion (λ behind. row.0 ≤ℤ behind.0) rows × AreRising rows

-- of a sorted list the first point at each time is appended
pub record AppendsFirsts (old sorted new : List Row) : Type 0 where
  pub added : List Row
  pub appends : new ≡ old ++ added
  pub short : length added ≤ length sorted
  pub ascending : AreAscending added
  pub firsts : (time : ℤ) → latest added time ≡ first_at sorted time
  pub bound : (time : ℤ) → AllByRecursion (λ row. time ≤ℤ row.0) sorted → AllByRecursion (λ row. time ≤ℤ row.0) added
