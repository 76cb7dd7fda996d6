-- The points stay, and what is staged is so at places still to come.
use Rattle.std.proofs.Common.{◌≡◌, drop}
use Rattle.point_cache.specs.Staged.{AreCovered, entries_of, lives}
use Rattle.point_cache.proofs.places.discard_all.Given as goal

abbrev pub invariant-loop-place : goal.invariant-loop-place
invariant-loop-place l = record {
  lives : lives (entries_of l.map.entries) ≡ lives (entries_of l.initial.map.entries);
  covered : AreCovered (drop l.place-index l.touched) (entries_of l.map.entries);
}
