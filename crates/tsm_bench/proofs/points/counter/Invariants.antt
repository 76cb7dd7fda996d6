use Rattle.std.proofs.Common.{◌≡◌, length, ◌<ℤ◌, None, IfSome}
use Rattle.std.specs.List.{last_or}
use Rattle.tsdb_types.specs.Values.{kind_of}
use Rattle.tsdb_types.specs.declared.value.Kind.TheVariants.{Integer}
use Rattle.tsm_bench.specs.Runs.{Run}
use Rattle.tsm_bench.proofs.points.counter.Given as goal

abbrev pub invariant-loop : goal.invariant-loop
invariant-loop l = record {
  run : Run None l.points.items;
  count : length l.points.items ≡ l.counter;
  ends : IfSome (last_or None l.points.items) (λ last. (last.0 <ℤ l.time) × (kind_of last.1 ≡ Integer));
}
