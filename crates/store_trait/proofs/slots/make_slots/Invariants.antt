-- The points so far have their slots, and every slot stays.
use Rattle.std.proofs.Common.{◌≡◌, ◌<◌, ℕ, Some, IsSome, slice_get}
use Rattle.tsdb_types.specs.Moments.{IsMoment}
use Rattle.tsdb_types.specs.declared.point.Cell.{Cell}
use Rattle.tsdb_types.specs.declared.point.Point.{Point}
use Rattle.store_trait.specs.Slots.{slot_at, Stays}
use Rattle.store_trait.proofs.slots.make_slots.Given as goal

abbrev pub invariant-loop-point : goal.invariant-loop-point
invariant-loop-point l = record {
  made : (k : ℕ) (point : Point) → k < l.point-index → slice_get l.points k ≡ Some point → IsSome (slot_at l.slots point.cell);
  timed : (k : ℕ) (point : Point) → k < l.point-index → slice_get l.points k ≡ Some point → IsMoment point.cell.time;
  kept : (q : Cell) → Stays (slot_at l.initial.slots q) (slot_at l.slots q);
}
