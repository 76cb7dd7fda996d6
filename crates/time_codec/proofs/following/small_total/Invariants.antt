use Rattle.std.proofs.Common.{◌≡◌, ◌+◌, drop, sum}
use Rattle.time_codec.proofs.following.small_total.Given as goal

abbrev pub invariant-loop-step : goal.invariant-loop-step
invariant-loop-step l = l.total + sum (drop l.step-index l.steps) ≡ sum l.steps
