-- What was taken so far, and what is to be taken of the keys that are left, is all.
use Rattle.std.proofs.Common.{◌≡◌, ◌++◌}
use Rattle.std.specs.List.{AllByRecursion}
use Rattle.tsdb_types.specs.Series.{IsSeriesText}
use Rattle.store_trait.specs.Tags.{keys_within}
use Rattle.live_points.specs.Listed.{listed, whole}
use Rattle.live_points.proofs.names.all_tag_keys.Given as goal

abbrev pub invariant-loop-series : goal.invariant-loop-series
invariant-loop-series l = record {
  keys : l.found.items ++ keys_within (listed l.cache.runs (whole l.need) l.series-iterator) ≡ keys_within (listed l.cache.runs (whole l.need) l.keys.keys);
  series : AllByRecursion (λ key. IsSeriesText key.0) l.series-iterator → AllByRecursion (λ key. IsSeriesText key.0) l.keys.keys;
}
