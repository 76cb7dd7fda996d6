use Rattle.std.proofs.Common.{◌≡◌, length}
use Rattle.tsdb_types.specs.declared.value.Kind.TheVariants.{Boolean}
use Rattle.value_codec.specs.Coding.{AreOf}
use Rattle.codec_bench.proofs.values.truths.Given as goal

abbrev pub invariant-loop : goal.invariant-loop
invariant-loop l = AreOf Boolean l.values.items × (length l.values.items ≡ l.counter)
