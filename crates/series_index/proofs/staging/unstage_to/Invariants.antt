-- The changes behind the place so far are forgotten.
use Rattle.std.proofs.Common.{◌≤◌, length}
use Rattle.series_index.specs.Staging.{Unstages}
use Rattle.series_index.proofs.staging.unstage_to.Given as goal

abbrev pub invariant-loop-lists : goal.invariant-loop-lists
invariant-loop-lists l = record {
  fewer : Unstages l.initial.lists l.lists l.initial.staged.items l.staged.items;
  left : l.count ≤ length l.initial.staged.items → l.count ≤ length l.staged.items;
}

abbrev pub decreases-loop-lists : goal.decreases-loop-lists
decreases-loop-lists l = length l.staged.items
