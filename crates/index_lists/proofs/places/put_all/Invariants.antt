-- The steps at the places so far are made, and there is room for the others.
use Rattle.std.proofs.Common.{◌≡◌, take, drop}
use Rattle.indexmap.specs.IndexMap.{keys, values}
use Rattle.index_lists.specs.Listing.{Puts}
use Rattle.index_lists.specs.Steps.{HaveRoom, StepsAt}
use Rattle.index_lists.proofs.places.put_all.Given as goal

abbrev pub invariant-loop-place : goal.invariant-loop-place
invariant-loop-place l = record {
  terms : keys l.map ≡ keys l.initial.map;
  steps : StepsAt (Puts l.id) (take l.place-index l.places) (values l.initial.map) (values l.map);
  room : HaveRoom (drop l.place-index l.places) (values l.map);
}
