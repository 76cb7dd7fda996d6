-- The kinds so far and those of the columns that are left are all.
use Rattle.std.proofs.Common.{◌≡◌, ◌++◌, map, drop}
use Rattle.live_points.specs.Known.{kind_of_column}
use Rattle.live_points.proofs.conflicts.kinds_of_columns.Given as goal

abbrev pub invariant-loop-column : goal.invariant-loop-column
invariant-loop-column l = l.kinds.items ++ map (kind_of_column l.cache.runs l.samples) (drop l.column-index l.columns) ≡ map (kind_of_column l.cache.runs l.samples) l.columns
