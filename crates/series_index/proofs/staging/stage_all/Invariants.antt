-- The changes so far are ready.
use Rattle.std.proofs.Common.{◌≡◌, ◌++◌, List, length}
use Rattle.std.specs.Vec.Iter.{into_iter_items, into_iter_len}
use Rattle.index_lists.specs.declared.change.IndexChange.{IndexChange}
use Rattle.series_index.specs.Staging.{Stages}
use Rattle.series_index.proofs.staging.stage_all.Given as goal

abbrev pub invariant-loop-change : goal.invariant-loop-change
invariant-loop-change l = record {
  done : List IndexChange;
  stages : Stages done l.initial.lists l.lists l.initial.staged.items l.staged.items;
  all : done ++ into_iter_items l.change-iterator ≡ into_iter_items l.initial.change-iterator;
  len : into_iter_len l.change-iterator ≡ length (into_iter_items l.change-iterator);
}
