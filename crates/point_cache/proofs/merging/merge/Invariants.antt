-- The batch so far is merged with what was held before the place.
use Rattle.std.proofs.Common.{◌≤◌, drop, length}
use Rattle.point_cache.proofs.MergeLemmas.{Merging}
use Rattle.point_cache.proofs.merging.merge.Given as goal

abbrev pub invariant-loop-point : goal.invariant-loop-point
invariant-loop-point l = record {
  within : l.next ≤ length l.held;
  merging : Merging l.held l.batch l.merged.items (drop l.next l.held) (drop l.point-index l.batch);
}
