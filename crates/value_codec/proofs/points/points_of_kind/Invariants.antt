use Rattle.std.proofs.Common.{◌≡◌, ◌+◌, ◌++◌, ◌∷◌, ℕ, List, take, map, All}
use Rattle.std.specs.Prelude.{vec_len, vec_capacity, length}
use Rattle.value_codec.specs.Steps.{steps_from}
use Rattle.value_codec.specs.Coding.{number_of, AreOf, IsInRange}
use Rattle.value_codec.proofs.points.points_of_kind.Given as goal

abbrev pub invariant-loop-k : goal.invariant-loop-k
invariant-loop-k l = record {
  times : map (λ point. point.0) l.points.items ≡ take (l.k + 1) l.times;
  steps : (later : List ℕ) → steps_from 0 (map number_of (map (λ point. point.1) l.points.items) ++ later) ≡ (l.first ∷ take l.k l.rest) ++ steps_from l.number later;
  kind : AreOf l.kind (map (λ point. point.1) l.points.items);
  range : All IsInRange (map (λ point. point.1) l.points.items);
  len : vec_len l.points ≡ l.k + 1;
  room : vec_capacity l.points ≡ length l.times;
}
