use Rattle.std.proofs.Common.{◌≡◌, ◌+◌, ◌++◌, ◌∷◌, ℕ, List, length, take, map, All}
use Rattle.std.specs.Prelude.{vec_len, vec_capacity}
use Rattle.value_codec.specs.Steps.{steps_from}
use Rattle.value_codec.specs.Coding.{number_of, AreOf, IsInRange}
use Rattle.value_codec.proofs.numbers.values_of_kind.Given as goal

abbrev pub invariant-loop-k : goal.invariant-loop-k
invariant-loop-k l = record {
  steps : (later : List ℕ) → steps_from 0 (map number_of l.values.items ++ later) ≡ (l.first ∷ take l.k l.rest) ++ steps_from l.number later;
  kind : AreOf l.kind l.values.items;
  range : All IsInRange l.values.items;
  len : vec_len l.values ≡ l.k + 1;
  room : vec_capacity l.values ≡ length l.rest + 1;
}
