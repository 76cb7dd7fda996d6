-- What was taken so far, and what is to be taken of the series that are left, is all.
use Rattle.std.proofs.Common.{◌≡◌, ◌++◌, map}
use Rattle.std.specs.Map.{keys_of}
use Rattle.store_trait.specs.Gathered.{listed, rows_taken, AreOrdered}
use Rattle.store_trait.specs.Lists.{lists_of}
use Rattle.store_trait.proofs.gather.gather.Given as goal

abbrev pub invariant-loop-series : goal.invariant-loop-series
invariant-loop-series l = record {
  keys : l.keys.items ++ keys_of (listed l.need l.series-iterator) ≡ l.initial.keys.items ++ keys_of (listed l.need l.slots.entries);
  rows : lists_of l.rows.items ++ map (λ e. rows_taken l.need e.1) (listed l.need l.series-iterator)
      ≡ lists_of l.initial.rows.items ++ map (λ e. rows_taken l.need e.1) (listed l.need l.slots.entries);
  ordered : AreOrdered l.need l.series-iterator → AreOrdered l.need l.slots.entries;
}
