use Rattle.std.proofs.Common.{◌≡◌, ◌+◌, ◌*◌, ◌/◌, ◌^◌, map, drop}
use Rattle.value_codec.specs.Booleans.{byte_of}
use Rattle.value_codec.specs.Coding.{truth_of}
use Rattle.value_codec.proofs.bits.byte_with.Given as goal

abbrev pub invariant-loop-value : goal.invariant-loop-value
invariant-loop-value l = record {
  read : l.bits * l.unit + byte_of (l.unit / 2) (map truth_of (drop l.value-index l.values)) ≡ byte_of 128 (map truth_of l.values);
  unit_is : l.unit ≡ 256 / 2 ^ l.value-index;
}
