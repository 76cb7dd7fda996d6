-- The fields so far and those of what is left are all.
use Rattle.std.proofs.Common.{◌≡◌, ◌++◌}
use Rattle.live_points.specs.Listed.{kinds_listed}
use Rattle.live_points.proofs.names.fields_with_points.Given as goal

abbrev pub invariant-loop-field : goal.invariant-loop-field
invariant-loop-field l = l.found.items ++ kinds_listed l.cache.runs l.field-iterator ≡ kinds_listed l.cache.runs l.fields.entries
