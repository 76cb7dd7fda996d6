use Rattle.std.proofs.Common.{◌≡◌, take, length, map}
use Rattle.value_codec.proofs.points.joined.Given as goal

abbrev pub invariant-loop-time : goal.invariant-loop-time
invariant-loop-time l = record {
  times : map (λ point. point.0) l.points.items ≡ take (length l.yielded) l.times;
  values : map (λ point. point.1) l.points.items ≡ take (length l.yielded) l.values;
}
