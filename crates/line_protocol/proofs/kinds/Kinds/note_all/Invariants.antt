use Rattle.std.proofs.Common.{◌≡◌, drop}
use Rattle.tsdb_types.specs.Series.{measurement_ends_at}
use Rattle.tsdb_types.specs.Spelled.{unescaped}
use Rattle.line_protocol.specs.Fields.{fields_spelled}
use Rattle.line_protocol.specs.Kinds.{seen_of, note_all}
use Rattle.line_protocol.proofs.kinds.Kinds.note_all.Given as goal

abbrev pub invariant-loop-field : goal.invariant-loop-field
invariant-loop-field l =
    note_all (seen_of l.self) (unescaped measurement_ends_at l.measurement) (fields_spelled (drop l.field-index l.fields))
    ≡ note_all (seen_of l.fn.self) (unescaped measurement_ends_at l.measurement) (fields_spelled l.fields)
