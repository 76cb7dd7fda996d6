-- The rows so far are those that were taken, the last first, and there is room for the others.
use Rattle.std.proofs.Common.{◌≡◌, ◌+◌, ◌≤◌, List, ◌++◌, length, reverse, vec_len, vec_capacity}
use Rattle.point_cache.specs.Staged.{Slot, entries_of, lives}
use Rattle.point_cache.proofs.taking.take_rows.Given as goal

abbrev pub invariant-loop-key : goal.invariant-loop-key
invariant-loop-key l = record {
  done : List Slot;
  map : l.initial.map.entries ≡ l.map.entries ++ done;
  rows : l.rows.items ≡ l.initial.rows.items ++ reverse (lives (entries_of done));
  room : vec_len l.rows + length l.map.entries ≤ vec_capacity l.rows;
}

abbrev pub decreases-loop-key : goal.decreases-loop-key
decreases-loop-key l = length l.map.entries
