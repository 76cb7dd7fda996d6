-- The steps at the places so far are made.
use Rattle.std.proofs.Common.{◌≡◌, take}
use Rattle.indexmap.specs.IndexMap.{keys, values}
use Rattle.index_lists.specs.Steps.{GivesRoom, StepsAt}
use Rattle.index_lists.proofs.places.give_rooms.Given as goal

abbrev pub invariant-loop-place : goal.invariant-loop-place
invariant-loop-place l = record {
  terms : keys l.map ≡ keys l.initial.map;
  steps : StepsAt GivesRoom (take l.place-index l.places) (values l.initial.map) (values l.map);
}
