-- What does a contract see of points in memory?
use Rattle.std.specs.Prelude.{List, Option}
use Rattle.tsdb_types.specs.declared.point.Point.{Point}
use Rattle.point_model.specs.Points.{Points}

-- The points, and the batch that there is room for.
pub record Live : Type 0 where
  pub points : Points
  pub room : Option (List Point)
