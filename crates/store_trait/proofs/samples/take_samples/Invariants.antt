-- The fields of the points so far have samples.
use Rattle.std.proofs.Common.{◌≡◌, ◌<◌, ℕ, Some, slice_get}
use Rattle.tsdb_types.specs.declared.point.Point.{Point}
use Rattle.store_trait.specs.Plain.{Resamples, IsSampled}
use Rattle.store_trait.proofs.samples.take_samples.Given as goal

abbrev pub invariant-loop-point : goal.invariant-loop-point
invariant-loop-point l = record {
  sampled : (k : ℕ) (point : Point) → k < l.point-index → slice_get l.points k ≡ Some point → IsSampled l.slots l.points l.samples point;
  kept : Resamples l.slots l.points l.initial.samples l.samples;
}
