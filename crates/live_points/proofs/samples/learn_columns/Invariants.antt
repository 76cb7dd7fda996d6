-- The columns so far are known, and their fields have samples.
use Rattle.std.proofs.Common.{◌≡◌, ◌<◌, ℕ, Some, slice_get}
use Rattle.tsdb_types.specs.declared.column.Column.{Column}
use Rattle.live_points.specs.Known.{IsKnown}
use Rattle.live_points.specs.Learned.{IsSampled, Learns, Resamples, key_of_column}
use Rattle.live_points.proofs.samples.learn_columns.Given as goal

abbrev pub invariant-loop-column : goal.invariant-loop-column
invariant-loop-column l = record {
  keys : Learns l.columns l.initial.keys l.keys;
  samples : Resamples l.cache.runs l.columns l.keys l.initial.samples l.samples;
  known : (k : ℕ) (column : Column) → k < l.column-index → slice_get l.columns k ≡ Some column → IsKnown l.keys (key_of_column column);
  sampled : (k : ℕ) (column : Column) → k < l.column-index → slice_get l.columns k ≡ Some column → IsSampled l.cache.runs l.columns l.samples column;
}
