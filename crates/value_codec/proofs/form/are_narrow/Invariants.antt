use Rattle.std.proofs.Common.{◌≡◌, ◌&&◌, ◌^◌, ltb, drop}
use Rattle.std.specs.List.{list_all}
use Rattle.value_codec.proofs.form.are_narrow.Given as goal

-- the steps so far, and the rest
abbrev pub invariant-loop-step : goal.invariant-loop-step
invariant-loop-step l = (l.narrow && list_all (λ step. ltb step (2 ^ 60)) (drop l.step-index l.steps)) ≡ list_all (λ step. ltb step (2 ^ 60)) l.steps
