use Rattle.std.proofs.Common.{◌≡◌, ◌+◌, ◌*◌, ◌∷◌, ◌++◌, length, map, drop}
use Rattle.std.specs.Prelude.{pos, ◌+ℤ◌, vec_len, vec_capacity}
use Rattle.tsdb_types.specs.Moments.{IsMoment}
use Rattle.time_codec.specs.Reading.{Lead, times_behind}
use Rattle.time_codec.proofs.following.follow.Given as goal

-- the times that are written, and those that the other steps lead to
abbrev pub invariant-loop-step : goal.invariant-loop-step
invariant-loop-step l = record {
  len : vec_len l.times ≡ l.step-index + 1;
  room : vec_capacity l.times ≡ length l.steps + 1;
  moment : IsMoment (l.first +ℤ pos l.total);
  on : Lead (l.first +ℤ pos l.total) (map (λ step. step * l.unit) (drop l.step-index l.steps));
  done : l.times.items ++ times_behind (l.first +ℤ pos l.total) (map (λ step. step * l.unit) (drop l.step-index l.steps)) ≡ l.first ∷ times_behind l.first (map (λ step. step * l.unit) l.steps);
}
