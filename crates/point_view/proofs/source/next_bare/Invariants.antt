-- The points that were passed over lie in some range, so those that lie in none are left.
use Rattle.std.proofs.Common.{◌≡◌, length}
use Rattle.point_view.specs.Sources.{bare}
use Rattle.point_view.proofs.source.next_bare.Given as goal

abbrev pub invariant-loop-row : goal.invariant-loop-row
invariant-loop-row l = bare l.hidden l.stretch ≡ bare l.hidden l.initial.stretch

abbrev pub decreases-loop-row : goal.decreases-loop-row
decreases-loop-row l = length l.stretch
