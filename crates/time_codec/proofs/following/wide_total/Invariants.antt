use Rattle.std.proofs.Common.{◌≡◌, ◌+◌, ◌<◌, ℕ, drop, get_or, sum}
use Rattle.time_codec.proofs.following.wide_total.Given as goal

abbrev pub invariant-loop-step : goal.invariant-loop-step
invariant-loop-step l = record {
  total : l.total + sum (drop l.step-index l.steps) ≡ sum l.steps;
  positive : (k : ℕ) → k < l.step-index → 0 < get_or l.steps k 0;
}
