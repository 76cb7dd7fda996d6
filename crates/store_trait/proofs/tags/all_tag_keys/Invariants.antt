-- What was taken so far, and what is to be taken of the series that are left, is all.
use Rattle.std.proofs.Common.{◌≡◌, ◌++◌}
use Rattle.std.specs.Map.{keys_of}
use Rattle.store_trait.specs.Gathered.{listed, whole, AreOrdered, AreSeriesTexts}
use Rattle.store_trait.specs.Tags.{keys_within}
use Rattle.store_trait.proofs.tags.all_tag_keys.Given as goal

abbrev pub invariant-loop-series : goal.invariant-loop-series
invariant-loop-series l = record {
  keys : l.found.items ++ keys_within (keys_of (listed (whole l.need) l.series-iterator)) ≡ keys_within (keys_of (listed (whole l.need) l.slots.entries));
  series : AreSeriesTexts (whole l.need) l.series-iterator → AreSeriesTexts (whole l.need) l.slots.entries;
  ordered : AreOrdered (whole l.need) l.series-iterator → AreOrdered (whole l.need) l.slots.entries;
}
