use Rattle.std.proofs.Common.{List, [], ◌∷◌, ◌+◌, Result, drop, sym, ap, ◌∙◌, arith}
use Rattle.std.proofs.lemmas.List.{drop_all}
use Rattle.tsdb_types.specs.declared.point.Point.{Point}
use Rattle.line_protocol.specs.declared.fault.LineCode.{LineCode}
use Rattle.line_protocol.specs.declared.spelled_field.SpelledField.{SpelledField}
use Rattle.line_protocol.specs.Fields.{field_spelled, fields_spelled}
use Rattle.line_protocol.specs.Lines.{with_points}
use Rattle.line_protocol.specs.Readings.{◌>>=◌}
use Rattle.line_protocol.proofs.LineLemmas.{points-at, points-first, points-none}
use Rattle.line_protocol.proofs.ReadingLemmas.{refuses-along, refuses-bind}
use Rattle.line_protocol.proofs.points.add_points.Goals as goal

pub loop-field-preserved : goal.loop-field-preserved
loop-field-preserved c =
    let at = c.loop-field in
    let i = at.field-index in
    let series = c.args.known.now.series in
    let fields = c.args.fields.now in
    let item = field_spelled c.field-item.result in
    let rest = fields_spelled (drop (i + 1) fields) in
    let step = points-at at.points c.args.time series fields i c.field-item.result c.loop-field-test.true c.field-item.is in
    let one = c.in-Ok.ensures in
    sym (step ∙ points-first at.points c.args.time series item rest ∙ ap (λ (r : Result (List Point) LineCode). r >>= λ more. with_points more c.args.time series rest) one) ∙ at.invariant

pub returns-in-Err : goal.returns-in-Err
returns-in-Err c =
    let at = c.loop-field in
    let i = at.field-index in
    let series = c.args.known.now.series in
    let fields = c.args.fields.now in
    let item = field_spelled c.field-item.result in
    let rest = fields_spelled (drop (i + 1) fields) in
    let step = points-at at.points c.args.time series fields i c.field-item.result c.loop-field-test.true c.field-item.is in
    refuses-along c.in-Err.refusal _ _ (sym (step ∙ points-first at.points c.args.time series item rest) ∙ at.invariant)
    (refuses-bind c.in-Err.refusal (with_points at.points c.args.time series (item ∷ [])) (λ more. with_points more c.args.time series rest) c.in-Err.ensures)

pub returns : goal.returns
returns c =
    let at = c.loop-field in
    let series = c.args.known.now.series in
    sym at.invariant
    ∙ ap (λ (fs : List SpelledField). with_points at.points c.args.time series (fields_spelled fs)) (drop_all at.field-index c.args.fields.now (omega arith))
    ∙ points-none at.points c.args.time series
