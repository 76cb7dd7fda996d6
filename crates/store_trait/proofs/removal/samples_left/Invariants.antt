-- The samples so far, and those that the series that are left have to offer, are all.
use Rattle.std.proofs.Common.{◌≡◌, ℕ, List}
use Rattle.std.specs.BTreeMap.{get}
use Rattle.std.specs.Option.{option_or}
use Rattle.store_trait.specs.Removals.{first_offered, series_kept, AreOrderedOf}
use Rattle.store_trait.specs.Slots.{text_cmp}
use Rattle.store_trait.proofs.removal.samples_left.Given as goal

abbrev pub invariant-loop-series : goal.invariant-loop-series
invariant-loop-series l = record {
  samples : (field : List ℕ) → option_or (get text_cmp l.samples field) (first_offered (series_kept l.deletion field) l.series-iterator) ≡ first_offered (series_kept l.deletion field) l.slots.entries;
  ordered : AreOrderedOf l.deletion l.series-iterator → AreOrderedOf l.deletion l.slots.entries;
}
