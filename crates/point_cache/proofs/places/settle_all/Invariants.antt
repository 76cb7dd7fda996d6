-- The places so far are settled.
use Rattle.std.proofs.Common.{◌≡◌, ℕ, Some, slice_get, drop, length, sum_by, ◌⊎◌}
use Rattle.point_cache.specs.Cached.{AreAscending}
use Rattle.point_cache.specs.Staged.{Entry, Among, IsStaging, entries_of}
use Rattle.point_cache.specs.Steps.{Settles}
use Rattle.point_cache.proofs.places.settle_all.Given as goal

abbrev pub invariant-loop-place : goal.invariant-loop-place
invariant-loop-place l = record {
  settles : Settles (entries_of l.initial.map.entries) (entries_of l.map.entries);
  staging : IsStaging (entries_of l.map.entries) l.touched (sum_by (λ (entry : Entry). length entry.1.live) (entries_of l.initial.map.entries)) l.total;
  settled : (p : ℕ) (entry : Entry) → slice_get (entries_of l.map.entries) p ≡ Some entry → AreAscending entry.1.next ⊎ Among (drop l.place-index l.touched) p;
}
