-- The terms so far have places.
use Rattle.std.proofs.Common.{◌≡◌, ◌++◌, List, length}
use Rattle.std.specs.Vec.Iter.{into_iter_items, into_iter_len}
use Rattle.indexmap.specs.IndexMap.{keys, values}
use Rattle.index_lists.specs.declared.term.Term.{Term}
use Rattle.index_lists.specs.Ready.{StandAt}
use Rattle.index_lists.specs.Steps.{Grows}
use Rattle.index_lists.proofs.places.add_places.Given as goal

abbrev pub invariant-loop-term : goal.invariant-loop-term
invariant-loop-term l = record {
  grows : Grows (keys l.initial.map) (values l.initial.map) (keys l.map) (values l.map);
  stand : (before : List Term) → StandAt (keys l.initial.map) before l.initial.places.items
      → (done : List Term) × (done ++ into_iter_items l.term-iterator ≡ into_iter_items l.initial.term-iterator) × StandAt (keys l.map) (before ++ done) l.places.items;
  len : into_iter_len l.term-iterator ≡ length (into_iter_items l.term-iterator);
}
