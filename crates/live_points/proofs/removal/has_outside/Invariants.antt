-- All rows so far are between the times.
use Rattle.std.proofs.Common.{◌≡◌, drop}
use Rattle.point_cache.specs.Cached.{rows_outside}
use Rattle.live_points.proofs.removal.has_outside.Given as goal

abbrev pub invariant-loop-row : goal.invariant-loop-row
invariant-loop-row l = rows_outside l.from l.to l.rows ≡ rows_outside l.from l.to (drop l.row-index l.rows)
