use Rattle.std.proofs.Common.{◌≡◌, drop}
use Rattle.line_protocol.specs.Fields.{fields_spelled}
use Rattle.line_protocol.specs.Lines.{with_points}
use Rattle.line_protocol.proofs.points.add_points.Given as goal

-- the points so far, and those of the fields that are left
abbrev pub invariant-loop-field : goal.invariant-loop-field
invariant-loop-field l =
    with_points l.points l.time l.known.series (fields_spelled (drop l.field-index l.fields)) ≡ with_points l.fn.points l.time l.known.series (fields_spelled l.fields)
