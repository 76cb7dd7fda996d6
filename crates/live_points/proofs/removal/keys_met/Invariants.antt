-- The keys so far and those of what is left are all, and there is room for each.
use Rattle.std.proofs.Common.{◌≡◌, ◌++◌, filter}
use Rattle.live_points.specs.Removed.{HaveRoom, is_met}
use Rattle.live_points.proofs.removal.keys_met.Given as goal

abbrev pub invariant-loop-series : goal.invariant-loop-series
invariant-loop-series l = record {
  met : l.met.items ++ filter (is_met l.deletion) l.series-iterator ≡ filter (is_met l.deletion) l.keys.keys;
  room : HaveRoom l.buffer l.met.items;
}
