-- The samples so far, and those that the columns that are left have to offer, are all.
use Rattle.std.proofs.Common.{◌≡◌, ℕ, List}
use Rattle.std.specs.BTreeMap.{get}
use Rattle.std.specs.Option.{option_or}
use Rattle.store_trait.specs.Gathered.{AreOrderedRows}
use Rattle.store_trait.specs.Removals.{first_offered, cell_kept}
use Rattle.store_trait.specs.Slots.{text_cmp}
use Rattle.store_trait.proofs.removal.offer_fields.Given as goal

abbrev pub invariant-loop-field : goal.invariant-loop-field
invariant-loop-field l = record {
  samples : (f : List ℕ) → option_or (get text_cmp l.samples f) (first_offered (cell_kept l.deletion l.met l.series f) l.field-iterator)
      ≡ option_or (get text_cmp l.initial.samples f) (first_offered (cell_kept l.deletion l.met l.series f) l.fields.entries);
  ordered : AreOrderedRows l.field-iterator → AreOrderedRows l.fields.entries;
}
