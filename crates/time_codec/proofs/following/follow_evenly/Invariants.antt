use Rattle.std.proofs.Common.{◌≡◌, ◌-◌, ◌∷◌, ◌++◌, length, take, replicate}
use Rattle.tsdb_types.specs.Moments.{IsMoment}
use Rattle.time_codec.specs.Reading.{Lead, times_behind}
use Rattle.time_codec.proofs.following.follow_evenly.Given as goal

-- the times that are written, and those behind them
abbrev pub invariant-loop-k : goal.invariant-loop-k
invariant-loop-k l = record {
  size : length l.times ≡ length l.initial.times;
  moment : IsMoment l.last;
  on : Lead l.last (replicate (length l.times - l.k) l.distance);
  done : take l.k l.times ++ times_behind l.last (replicate (length l.times - l.k) l.distance) ≡ l.fn.first ∷ times_behind l.fn.first (replicate (length l.initial.times - 1) l.distance);
}
