-- The values behind all keys are those behind the keys that are left; the keys so far may be known no more.
use Rattle.std.proofs.Common.{◌≡◌, ◌≤◌, ℕ, ℤ, List, drop, vec_capacity}
use Rattle.point_cache.specs.Cached.{value_at}
use Rattle.live_points.specs.Removed.{ForgetsKeys, value_spared}
use Rattle.live_points.proofs.removal.take_keys.Given as goal

abbrev pub invariant-loop-key : goal.invariant-loop-key
invariant-loop-key l = record {
  room : vec_capacity l.initial.buffer ≤ vec_capacity l.buffer;
  values : (bytes : List ℕ) (time : ℤ) → value_spared (drop l.key-index l.keys) l.from l.to bytes time (value_at l.cache.runs bytes time)
      ≡ value_spared l.keys l.from l.to bytes time (value_at l.initial.cache.runs bytes time);
  known : ForgetsKeys l.cache.runs l.keys l.initial.known l.known;
}
