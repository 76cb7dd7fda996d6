-- What a tombstone that stands in bytes does to a set.
use Rattle.std.specs.Prelude.{◌≡◌, ℕ, ℤ, List, ◌⊎◌, ◌↔◌}
use Rattle.tsdb_types.specs.Moments.{IsMoment}
use Rattle.tombstones.specs.declared.raw.Raw.{Raw}
use Rattle.tombstones.specs.Ranges.{Spans}
use Rattle.tombstones.specs.Covered.{Tomb, Hides}

-- without where it lies in memory
abbrev pub tomb_of : Raw → Tomb
tomb_of raw = record { key = raw.key.now; range = record { from = raw.from; to = raw.to } }

-- of the moments, the new tombstones hide what the old ones do and those of this one, and nothing else
abbrev pub HidesAlsoWithin : List Tomb → Tomb → List Tomb → Type 0
HidesAlsoWithin old tomb new =
    (key : List ℕ) (time : ℤ) → IsMoment time → Hides new key time ↔ (Hides old key time ⊎ ((tomb.key ≡ key) × Spans tomb.range time))
