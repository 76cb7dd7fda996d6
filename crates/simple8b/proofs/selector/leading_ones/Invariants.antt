use Rattle.std.proofs.Common.{◌-◌, ◌≡◌, ◌≤◌, ◌<◌, ℕ, slice_index}
use Rattle.simple8b.proofs.selector.leading_ones.Given as goal

abbrev pub invariant-loop-at : goal.invariant-loop-at
invariant-loop-at l = record { ones : (k : ℕ) → k < l.at → slice_index l.values k ≡ 1; within : l.at ≤ l.end }

abbrev pub decreases-loop-at : goal.decreases-loop-at
decreases-loop-at l = l.end - l.at
