use Rattle.std.proofs.Common.{◌≡◌, ◌++◌, map, length}
use Rattle.value_codec.specs.Booleans.{bytes_behind}
use Rattle.value_codec.specs.Coding.{truth_of}
use Rattle.value_codec.proofs.bits.append_bits.Given as goal

abbrev pub invariant-loop-eight : goal.invariant-loop-eight
invariant-loop-eight l = l.out.items ++ bytes_behind 0 (map truth_of l.rest) ≡ l.initial.out.items ++ bytes_behind 0 (map truth_of l.values)

abbrev pub decreases-loop-eight : goal.decreases-loop-eight
decreases-loop-eight l = length l.rest
