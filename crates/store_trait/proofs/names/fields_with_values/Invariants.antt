-- The fields so far and those of what is left are all.
use Rattle.std.proofs.Common.{◌≡◌, ◌++◌}
use Rattle.store_trait.specs.Gathered.{kinds_listed}
use Rattle.store_trait.proofs.names.fields_with_values.Given as goal

abbrev pub invariant-loop-field : goal.invariant-loop-field
invariant-loop-field l = l.found.items ++ kinds_listed l.slots l.field-iterator ≡ kinds_listed l.slots l.fields.entries
