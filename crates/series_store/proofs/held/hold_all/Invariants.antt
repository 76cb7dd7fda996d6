use Rattle.std.proofs.Common.{◌≡◌, ◌≤◌, ◌++◌, length, nat_eq}
use Rattle.std.specs.List.{AllByRecursion, IsDistinct}
use Rattle.std.specs.Cmp.Lexicographic.{pointwise}
use Rattle.std.specs.Vec.Iter.{into_iter_items, into_iter_len}
use Rattle.indexmap.specs.IndexSet.{spare}
use Rattle.series_store.specs.Lists.{HasNoId}
use Rattle.series_store.proofs.held.hold_all.Given as goal

-- those that are left aren't held, differ, and have room
abbrev pub invariant-loop-key : goal.invariant-loop-key
invariant-loop-key l = record {
  all : l.held.keys ++ into_iter_items l.key-iterator ≡ l.initial.held.keys ++ into_iter_items l.initial.key-iterator;
  fresh : AllByRecursion (HasNoId l.held.keys) (into_iter_items l.key-iterator);
  distinct : IsDistinct (pointwise nat_eq) (into_iter_items l.key-iterator);
  room : length (into_iter_items l.key-iterator) ≤ spare l.held;
  len : into_iter_len l.key-iterator ≡ length (into_iter_items l.key-iterator);
}
