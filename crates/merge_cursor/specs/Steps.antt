-- Which source gives the next row, and what is left of the sources then?
use Rattle.std.specs.Prelude.{◌≡◌, ◌≢◌, ℕ, ◌<◌, ℤ, Bool, List, [], ◌∷◌, map, Option, Some, slice_get, if◌then◌else◌}
use Rattle.std.specs.declared.cmp.Ordering.TheVariants.{Less}
use Rattle.std.specs.Ordering.{int_eq}
use Rattle.tsdb_types.specs.declared.value.Value.{Value}
use Rattle.point_model.specs.Rows.{Row}
use Rattle.merge_cursor.specs.Overlays.{time_cmp}

-- a time comes before another, ascending or descending; no time before itself
abbrev pub IsBefore : Bool → ℤ → ℤ → Type 0
IsBefore descending a b = time_cmp descending a b ≡ Less

-- the first row that is left of each source, where one is
abbrev pub heads_of : List (List Row) → List (Option Row)
heads_of sources = map (λ rows. slice_get rows 0) sources

-- The head of this source is this row; no head comes before it, and of the heads at its time it is that of the newest source.
pub record IsNext (descending : Bool) (heads : List (Option Row)) (source : ℕ) (time : ℤ) (value : Value) : Type 0 where
  pub head : slice_get heads source ≡ Some (Some (time, value))
  pub first : (other : ℕ) (row : Row) → slice_get heads other ≡ Some (Some row) → ¬ IsBefore descending row.0 time
  pub newest : (newer : ℕ) (row : Row) → newer < source → slice_get heads newer ≡ Some (Some row) → row.0 ≢ time

-- the rows without the first, where that is at the time
abbrev pub rows_behind : ℤ → List Row → List Row
rows_behind time [] = []
rows_behind time (row ∷ rows) = if int_eq time row.0 then rows else row ∷ rows

-- what is left of the sources once each has gone on that stood at the time
abbrev pub advanced : ℤ → List (List Row) → List (List Row)
advanced time sources = map (rows_behind time) sources
