use Rattle.std.proofs.Common.{◌≡◌, ◌&&◌, ◌^◌, ltb, drop}
use Rattle.std.specs.List.{list_all}
use Rattle.time_codec.proofs.following.are_small.Given as goal

-- the steps so far, and the rest
abbrev pub invariant-loop-step : goal.invariant-loop-step
invariant-loop-step l = (l.small && list_all (λ step. ltb 0 step && ltb step (2 ^ 54)) (drop l.step-index l.steps)) ≡ list_all (λ step. ltb 0 step && ltb step (2 ^ 54)) l.steps
