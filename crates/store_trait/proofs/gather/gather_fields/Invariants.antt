-- What was taken so far, and what is to be taken of the fields that are left, is all.
use Rattle.std.proofs.Common.{◌≡◌, ◌++◌, map}
use Rattle.std.specs.Map.{keys_of}
use Rattle.store_trait.specs.Gathered.{fields_listed, rows_taken, AreOrderedRows}
use Rattle.store_trait.specs.Lists.{lists_of}
use Rattle.store_trait.proofs.gather.gather_fields.Given as goal

abbrev pub invariant-loop-field : goal.invariant-loop-field
invariant-loop-field l = record {
  keys : l.keys.items ++ keys_of (fields_listed l.series l.field-iterator) ≡ l.initial.keys.items ++ keys_of (fields_listed l.series l.fields.entries);
  rows : lists_of l.rows.items ++ map (λ e. rows_taken l.need e.1) (fields_listed l.series l.field-iterator)
      ≡ lists_of l.initial.rows.items ++ map (λ e. rows_taken l.need e.1) (fields_listed l.series l.fields.entries);
  ordered : AreOrderedRows l.field-iterator → AreOrderedRows l.fields.entries;
}
