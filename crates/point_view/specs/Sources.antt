-- What is left of the points of a key in memory?
use Rattle.std.specs.Prelude.{ℕ, ℤ, int_le, Bool, false, not, ◌&&◌, ◌||◌, List, [], ◌∷◌, filter, slice_get}
use Rattle.std.specs.Arc.{arc_value}
use Rattle.std.specs.Option.{option_map_or}
use Rattle.tombstones.specs.declared.range.TombRange.{TombRange}
use Rattle.point_model.specs.Rows.{Row}
use Rattle.point_cache.specs.declared.key_points.KeyPoints.{KeyPoints}
use Rattle.point_cache.specs.declared.key_points.KeyRun.{KeyRun}
use Rattle.point_view.specs.declared.stored.Stored.{Stored}
use Rattle.point_view.specs.declared.stored.Stored.TheVariants as stored

-- the points of the key at a place, none where no key is there
abbrev pub rows_at : List KeyRun → ℕ → List Row
rows_at runs place = option_map_or (λ (run : KeyRun). run.points) (slice_get runs place) []

-- the points that stand there
abbrev pub rows_stored : Stored → List Row
rows_stored (stored.Copied rows) = rows.items
rows_stored (stored.Shared snapshot place) = let points : KeyPoints = arc_value {X = KeyPoints} snapshot in rows_at points.rows place

-- some range has the time
abbrev pub is_covered : List TombRange → ℤ → Bool
is_covered [] time = false
is_covered (range ∷ ranges) time = (int_le range.from time && int_le time range.to) || is_covered ranges time

-- the points that no range covers
abbrev pub bare : List TombRange → List Row → List Row
bare ranges rows = filter (λ (row : Row). not (is_covered ranges row.0)) rows
