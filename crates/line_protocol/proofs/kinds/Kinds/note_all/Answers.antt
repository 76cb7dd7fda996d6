use Rattle.std.proofs.Common.{Result, ◌+◌, List, drop, sym, ap, ◌∙◌, arith}
use Rattle.std.proofs.lemmas.List.{drop_all}
use Rattle.tsdb_types.specs.Series.{measurement_ends_at}
use Rattle.tsdb_types.specs.Spelled.{unescaped}
use Rattle.tsdb_types.specs.Values.{kind_of}
use Rattle.tsdb_types.specs.declared.value.Kind.{Kind}
use Rattle.line_protocol.specs.declared.fault.LineCode.{LineCode}
use Rattle.line_protocol.specs.declared.spelled_field.SpelledField.{SpelledField}
use Rattle.line_protocol.specs.Fields.{field_spelled, fields_spelled}
use Rattle.line_protocol.specs.Kinds.{Seen, seen_of, place_of, note, note_all}
use Rattle.line_protocol.specs.Readings.{◌>>=◌}
use Rattle.line_protocol.proofs.LineLemmas.{note_all-at}
use Rattle.line_protocol.proofs.ReadingLemmas.{refuses-along, refuses-bind}
use Rattle.line_protocol.proofs.kinds.Kinds.note_all.Goals as goal

pub loop-field-preserved : goal.loop-field-preserved
loop-field-preserved c =
    let i = c.loop-field.field-index in
    let measurement = unescaped measurement_ends_at c.args.measurement.now in
    let fields = c.args.fields.now in
    let step = note_all-at (seen_of c.loop-field.self) measurement fields i c.field-item.result c.loop-field-test.true c.field-item.is in
    let kind = ap (λ (k : Kind). note (seen_of c.loop-field.self) (place_of measurement (field_spelled c.field-item.result).name) k) (sym c.kind.ensures) in
    sym (step ∙ ap (λ (r : Result Seen LineCode). r >>= λ after. note_all after measurement (fields_spelled (drop (i + 1) fields))) (kind ∙ c.in-Ok.ensures)) ∙ c.loop-field.invariant

pub returns-in-Err : goal.returns-in-Err
returns-in-Err c =
    let i = c.loop-field.field-index in
    let measurement = unescaped measurement_ends_at c.args.measurement.now in
    let fields = c.args.fields.now in
    let seen = seen_of c.loop-field.self in
    let field = c.field-item.result in
    let step = note_all-at seen measurement fields i field c.loop-field-test.true c.field-item.is in
    let kind = ap (λ (k : Kind). note seen (place_of measurement (field_spelled field).name) k) c.kind.ensures in
    refuses-along c.in-Err.refusal _ _ (sym step ∙ c.loop-field.invariant)
    (refuses-bind c.in-Err.refusal (note seen (place_of measurement (field_spelled field).name) (kind_of field.value)) (λ after. note_all after measurement (fields_spelled (drop (i + 1) fields)))
    (refuses-along c.in-Err.refusal _ _ kind c.in-Err.ensures))

pub returns : goal.returns
returns c =
    let measurement = unescaped measurement_ends_at c.args.measurement.now in
    sym c.loop-field.invariant
    ∙ ap (λ (fs : List SpelledField). note_all (seen_of c.loop-field.self) measurement (fields_spelled fs)) (drop_all c.loop-field.field-index c.args.fields.now (omega arith))
