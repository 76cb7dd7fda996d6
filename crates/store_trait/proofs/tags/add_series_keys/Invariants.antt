-- What was taken so far, and what is to be taken of the fields that are left, is all.
use Rattle.std.proofs.Common.{◌≡◌, ◌++◌}
use Rattle.std.specs.Map.{keys_of}
use Rattle.store_trait.specs.Gathered.{fields_listed, AreOrderedRows}
use Rattle.store_trait.specs.Tags.{keys_within}
use Rattle.store_trait.proofs.tags.add_series_keys.Given as goal

abbrev pub invariant-loop-field : goal.invariant-loop-field
invariant-loop-field l = record {
  keys : l.found.items ++ keys_within (keys_of (fields_listed l.series l._field-iterator)) ≡ l.initial.found.items ++ keys_within (keys_of (fields_listed l.series l.fields.entries));
  ordered : AreOrderedRows l._field-iterator → AreOrderedRows l.fields.entries;
}
