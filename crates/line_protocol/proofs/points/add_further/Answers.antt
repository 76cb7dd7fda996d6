use Rattle.std.proofs.Common.{ℕ, Bool, List, [], ◌∷◌, ◌++◌, Result, Ok, length, sym, ap, ◌∙◌}
use Rattle.tsdb_types.specs.Series.{tag_ends_at}
use Rattle.tsdb_types.specs.Spelled.{unescaped}
use Rattle.tsdb_types.specs.declared.point.Point.{Point}
use Rattle.line_protocol.specs.declared.fault.LineCode.{LineCode}
use Rattle.line_protocol.specs.Fields.{field_spelled}
use Rattle.line_protocol.specs.Lines.{keys_step, points_of}
use Rattle.line_protocol.specs.Readings.{◌>>=◌}
use Rattle.line_protocol.proofs.points.add_further.Goals as goal

abbrev Points : Type 0
Points = Result (List Point) LineCode

pub returns-in_ok-push_at-in-Ok : goal.returns-in_ok-push_at-in-Ok
returns-in_ok-push_at-in-Ok c =
    let series = c.args.known.now.series in
    let name = unescaped tag_ends_at c.args.field.now.key.now in
    let keyed = c.in-Ok.ensures name (ap (λ (t : List ℕ). length t) c.requires.plain) in
    let pushed = c.in_ok-push_at-in-Ok.ensures.ok (record { series = series; field = name }) c.requires.column in
    ap (λ (r : Result Bool LineCode). let p : Points = (r >>= λ fits. keys_step series []) >>= λ fits. Ok (c.args.points.now ++ points_of c.args.time series (field_spelled c.args.field.now ∷ [])) in p) keyed
    ∙ ap (λ (ps : List Point). let p : Points = Ok ps in p) (sym pushed)
