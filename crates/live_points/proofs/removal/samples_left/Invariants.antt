-- The samples so far, and those that the keys that are left have to offer, are all.
use Rattle.std.proofs.Common.{◌≡◌, ℕ, List}
use Rattle.std.specs.BTreeMap.{get}
use Rattle.std.specs.Option.{option_or}
use Rattle.store_trait.specs.Slots.{text_cmp}
use Rattle.live_points.specs.Removed.{first_left}
use Rattle.live_points.proofs.removal.samples_left.Given as goal

abbrev pub invariant-loop-series : goal.invariant-loop-series
invariant-loop-series l =
    (field : List ℕ) → option_or (get text_cmp l.samples field) (first_left l.cache.runs l.deletion field l.series-iterator) ≡ first_left l.cache.runs l.deletion field l.keys.keys
