-- The points so far have cells.
use Rattle.std.proofs.Common.{◌<◌, ℕ, get_or}
use Rattle.tsdb_types.specs.declared.point.Point.{Point}
use Rattle.point_model.specs.Acceptance.{IsCell}
use Rattle.live_points.proofs.points.look_at.Given as goal

abbrev pub invariant-loop-point : goal.invariant-loop-point
invariant-loop-point l = (k : ℕ) (default : Point) → k < l.point-index → IsCell (get_or l.points k default).cell
