-- What was taken so far, and what is to be taken of the keys that are left, is all.
use Rattle.std.proofs.Common.{◌≡◌, ◌++◌, map}
use Rattle.store_trait.specs.Lists.{lists_of}
use Rattle.live_points.specs.Listed.{listed, rows_taken}
use Rattle.live_points.proofs.gather.gather.Given as goal

abbrev pub invariant-loop-series : goal.invariant-loop-series
invariant-loop-series l = record {
  keys : l.shown.items ++ listed l.cache.runs l.need l.series-iterator ≡ l.initial.shown.items ++ listed l.cache.runs l.need l.keys.keys;
  rows : lists_of l.rows.items ++ map (rows_taken l.cache.runs l.need) (listed l.cache.runs l.need l.series-iterator)
      ≡ lists_of l.initial.rows.items ++ map (rows_taken l.cache.runs l.need) (listed l.cache.runs l.need l.keys.keys);
}
