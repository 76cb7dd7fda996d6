use Rattle.std.proofs.Common.{◌≡◌, drop}
use Rattle.line_protocol.specs.Fields.{fields_spelled}
use Rattle.line_protocol.specs.Lines.{has_time_field}
use Rattle.line_protocol.proofs.line.has_time.Given as goal

abbrev pub invariant-loop-field : goal.invariant-loop-field
invariant-loop-field l = has_time_field (fields_spelled (drop l.field-index l.fields)) ≡ has_time_field (fields_spelled l.fields)
