-- The points so far are set, and those behind them have their slots.
use Rattle.std.proofs.Common.{take, IsSome}
use Rattle.tsdb_types.specs.declared.point.Point.{Point}
use Rattle.point_model.specs.Points.{Points}
use Rattle.point_model.specs.Histories.{with_points}
use Rattle.store_trait.specs.Slots.{slot_at}
use Rattle.store_trait.specs.Plain.{IsIn, Agrees}
use Rattle.store_trait.proofs.slots.set_values.Given as goal

abbrev pub invariant-loop-point : goal.invariant-loop-point
invariant-loop-point l = record {
  there : (point : Point) → IsIn l.points point → IsSome (slot_at l.slots point.cell);
  set : (stored : Points) → Agrees l.initial.slots stored → Agrees l.slots (with_points stored (take l.point-index l.points));
}
