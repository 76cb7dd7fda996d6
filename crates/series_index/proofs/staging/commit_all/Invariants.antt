-- The changes so far are made, and those behind them are ready.
use Rattle.std.proofs.Common.{◌≡◌, ◌++◌, ◌+◌, ◌≤◌, List, length, vec_capacity}
use Rattle.std.specs.Vec.Iter.{into_iter_items, into_iter_len}
use Rattle.index_lists.specs.Listing.{Holds}
use Rattle.index_lists.specs.Pairs.{MayChange, Pair, after_all}
use Rattle.index_lists.specs.Ready.{AreReady}
use Rattle.series_index.specs.Index.{changes_of}
use Rattle.series_index.specs.Staging.{changing}
use Rattle.series_index.proofs.StagingLemmas.{Left}
use Rattle.series_index.proofs.staging.commit_all.Given as goal

abbrev pub invariant-loop-one : goal.invariant-loop-one
invariant-loop-one l = record {
  ready : AreReady l.lists (into_iter_items l.one-iterator);
  left : (pairs : List Pair) → Holds pairs l.initial.lists → MayChange pairs (changes_of (into_iter_items l.initial.one-iterator))
      → Left (changes_of (into_iter_items l.one-iterator)) l.lists l.pending.items (after_all (changes_of (into_iter_items l.initial.one-iterator)) pairs)
      (l.initial.pending.items ++ changing (changes_of (into_iter_items l.initial.one-iterator)) pairs);
  room : length l.pending.items + length (into_iter_items l.one-iterator) ≤ vec_capacity l.pending;
  capacity : vec_capacity l.initial.pending ≤ vec_capacity l.pending;
  len : into_iter_len l.one-iterator ≡ length (into_iter_items l.one-iterator);
}
