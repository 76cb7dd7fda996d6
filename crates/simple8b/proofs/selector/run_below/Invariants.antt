use Rattle.std.proofs.Common.{◌-◌, ◌≡◌, ◌≤◌, ◌<◌, ℕ, ◌⊎◌, slice_index}
use Rattle.simple8b.proofs.selector.run_below.Given as goal

abbrev pub invariant-loop-at : goal.invariant-loop-at
invariant-loop-at l = record {
  start : l.from ≤ l.at;
  below : (k : ℕ) → l.from ≤ k → k < l.at → slice_index l.values k < l.limit;
  within : (l.at ≤ l.to) ⊎ (l.at ≡ l.from);
}

abbrev pub decreases-loop-at : goal.decreases-loop-at
decreases-loop-at l = l.to - l.at
