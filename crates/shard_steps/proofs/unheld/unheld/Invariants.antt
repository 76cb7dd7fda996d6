-- what is noted so far, and then the rest, is all
use Rattle.std.proofs.Common.{◌≡◌, map, drop, []}
use Rattle.tsdb_types.specs.declared.column.Column.{Column}
use Rattle.shard_steps.specs.Series.{all_noted}
use Rattle.shard_steps.proofs.unheld.unheld.Given as goal

abbrev pub invariant-loop-column : goal.invariant-loop-column
invariant-loop-column l =
    all_noted l.series.keys (map (λ (column : Column). column.series) (drop l.column-index l.column-items)) l.new.keys
    ≡ all_noted l.series.keys (map (λ (column : Column). column.series) l.column-items) []
