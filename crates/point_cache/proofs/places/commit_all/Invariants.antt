-- What the points become stays, and what is staged is so at places still to come.
use Rattle.std.proofs.Common.{◌≡◌, drop}
use Rattle.point_cache.specs.Staged.{AreSettled, AreCovered, entries_of, nexts}
use Rattle.point_cache.proofs.places.commit_all.Given as goal

abbrev pub invariant-loop-place : goal.invariant-loop-place
invariant-loop-place l = record {
  nexts : nexts (entries_of l.map.entries) ≡ nexts (entries_of l.initial.map.entries);
  settled : AreSettled (entries_of l.map.entries);
  covered : AreCovered (drop l.place-index l.touched) (entries_of l.map.entries);
}
