use Rattle.std.proofs.Common.{◌≡◌, ◌*◌, min, map, take, length}
use Rattle.tsdb_types.specs.declared.value.Kind.TheVariants.{Boolean}
use Rattle.value_codec.specs.Booleans.{bytes_behind}
use Rattle.value_codec.specs.Coding.{truth_of, AreOf}
use Rattle.value_codec.proofs.bits.read_bits.Given as goal

abbrev pub invariant-loop-byte : goal.invariant-loop-byte
invariant-loop-byte l = record {
  read : bytes_behind 0 (map truth_of l.values.items) ≡ take l.byte-index l.bits;
  size : length l.values.items ≡ min l.n (8 * l.byte-index);
  kind : AreOf Boolean l.values.items;
}
