use Rattle.std.proofs.Common.{◌≡◌, Bool, true, false, ◌||◌, Ok, List, Result, sym, ap, ◌∙◌, subst}
use Rattle.std.proofs.lemmas.Result.{err_from_is_err_and}
use Rattle.tsdb_types.specs.Series.{measurement_ends_at}
use Rattle.tsdb_types.specs.Spelled.{unescaped}
use Rattle.line_protocol.specs.declared.fault.LineCode.{LineCode}
use Rattle.line_protocol.specs.declared.fault.LineCode.TheVariants.{ReservedName}
use Rattle.line_protocol.specs.declared.spelled_field.SpelledField.{SpelledField}
use Rattle.line_protocol.specs.Fields.{fields_spelled}
use Rattle.line_protocol.specs.Known.{KnownHead}
use Rattle.line_protocol.specs.Kinds.{Seen, seen_of, note_all}
use Rattle.line_protocol.specs.Lines.{time_of, has_time_field, with_points}
use Rattle.line_protocol.specs.Parts.{front, rest, unspaced}
use Rattle.line_protocol.specs.Readings.{unless}
use Rattle.line_protocol.proofs.LineLemmas.{rest-ok, rest-fields, rest-time, rest-names, rest-keys, rest-kinds}
use Rattle.line_protocol.proofs.ReadingLemmas.{refuses-along}
use Rattle.line_protocol.proofs.line.read_behind.Goals as goal

abbrev Step : Result Bool LineCode → Type 0
Step step = step ≡ Ok true

pub returns-clause-ok : goal.returns-clause-ok
returns-clause-ok c =
    let walk = c.args.known.now in
    let text = c.args.text.now in
    let found = fields_spelled c.read_fields.new.fields.items in
    let measurement = unescaped measurement_ends_at walk.measurement in
    let seen = seen_of c.args.kinds.now in
    let after = seen_of c.note_all.new.self in
    rest-ok seen after c.args.moment measurement walk.reserved walk.series (front 32 false text) (unspaced (rest 32 false text)) found c.in_ok-time.time c.args.points.now c.add_points.new.points
    c.in_ok-behind.ensures.fields
    (ap (λ t. time_of c.args.moment t) (sym (c.without_spaces.ensures ∙ ap unspaced c.in_ok-behind.ensures.behind)) ∙ c.in_ok-time.ensures)
    (subst (λ (k : KnownHead). Step (unless (k.reserved || has_time_field found) ReservedName)) c.known.view_is
    (subst (λ (fs : List SpelledField). Step (unless (c.known.inside.reserved || has_time_field (fields_spelled fs)) ReservedName)) c.as_slice.ensures.value c.in_ok-names_step.ensures))
    (subst (λ (fs : List SpelledField). with_points c.args.points.now c.in_ok-time.time walk.series (fields_spelled fs) ≡ Ok c.add_points.new.points) c.as_slice-2.ensures.value c.in_ok-add_points.ensures)
    (subst (λ (k : KnownHead). let r : Result Seen LineCode = note_all seen (unescaped measurement_ends_at k.measurement) found in r ≡ Ok after) c.known.view_is
    (subst (λ (fs : List SpelledField). let r : Result Seen LineCode = note_all seen (unescaped measurement_ends_at c.known.inside.measurement.now) (fields_spelled fs) in r ≡ Ok after) c.as_slice-3.ensures.value c.in_ok-note_all.ensures))

pub returns-in_err-behind-clause-refused : goal.returns-in_err-behind-clause-refused
returns-in_err-behind-clause-refused c =
    let walk = c.args.known.now in
    let text = c.args.text.now in
    let p = err_from_is_err_and c.from_residual.result c.from_residual.ensures.1 in
    rw (p.1, p.2)
    (rest-fields _ (seen_of c.args.kinds.now) c.args.moment (unescaped measurement_ends_at walk.measurement) walk.reserved walk.series (front 32 false text) (unspaced (rest 32 false text))
    c.in_err-behind.ensures.fields)

pub returns-in_err-time-clause-refused : goal.returns-in_err-time-clause-refused
returns-in_err-time-clause-refused c =
    let walk = c.args.known.now in
    let text = c.args.text.now in
    let found = fields_spelled c.read_fields.new.fields.items in
    let p = err_from_is_err_and c.from_residual-in_err-time.result c.from_residual-in_err-time.ensures.1 in
    rw (p.1, p.2)
    (rest-time _ (seen_of c.args.kinds.now) c.args.moment (unescaped measurement_ends_at walk.measurement) walk.reserved walk.series (front 32 false text) (unspaced (rest 32 false text)) found
    c.in_ok-behind.ensures.fields
    (refuses-along _ _ _ (ap (λ t. time_of c.args.moment t) (c.without_spaces.ensures ∙ ap unspaced c.in_ok-behind.ensures.behind)) c.in_err-time.ensures))

pub returns-in_err-names_step-clause-refused : goal.returns-in_err-names_step-clause-refused
returns-in_err-names_step-clause-refused c =
    let walk = c.args.known.now in
    let text = c.args.text.now in
    let found = fields_spelled c.read_fields.new.fields.items in
    let p = err_from_is_err_and c.from_residual-in_err-names_step.result c.from_residual-in_err-names_step.ensures.1 in
    rw (p.1, p.2)
    (rest-names _ (seen_of c.args.kinds.now) c.args.moment (unescaped measurement_ends_at walk.measurement) walk.reserved walk.series (front 32 false text) (unspaced (rest 32 false text)) found c.in_ok-time.time
    c.in_ok-behind.ensures.fields
    (ap (λ t. time_of c.args.moment t) (sym (c.without_spaces.ensures ∙ ap unspaced c.in_ok-behind.ensures.behind)) ∙ c.in_ok-time.ensures)
    (refuses-along _ _ _ (ap (λ (fs : List SpelledField). unless (c.known.inside.reserved || has_time_field (fields_spelled fs)) ReservedName) c.as_slice.ensures.value
    ∙ ap (λ (k : KnownHead). unless (k.reserved || has_time_field found) ReservedName) c.known.view_is) c.in_err-names_step.ensures))

pub returns-in_err-add_points-clause-refused : goal.returns-in_err-add_points-clause-refused
returns-in_err-add_points-clause-refused c =
    let walk = c.args.known.now in
    let text = c.args.text.now in
    let found = fields_spelled c.read_fields.new.fields.items in
    let p = err_from_is_err_and c.from_residual-in_err-add_points.result c.from_residual-in_err-add_points.ensures.1 in
    rw (p.1, p.2)
    (rest-keys _ (seen_of c.args.kinds.now) c.args.moment (unescaped measurement_ends_at walk.measurement) walk.reserved walk.series (front 32 false text) (unspaced (rest 32 false text)) found c.in_ok-time.time c.args.points.now
    c.in_ok-behind.ensures.fields
    (ap (λ t. time_of c.args.moment t) (sym (c.without_spaces.ensures ∙ ap unspaced c.in_ok-behind.ensures.behind)) ∙ c.in_ok-time.ensures)
    (subst (λ (k : KnownHead). Step (unless (k.reserved || has_time_field found) ReservedName)) c.known.view_is
    (subst (λ (fs : List SpelledField). Step (unless (c.known.inside.reserved || has_time_field (fields_spelled fs)) ReservedName)) c.as_slice.ensures.value c.in_ok-names_step.ensures))
    (refuses-along _ _ _ (ap (λ (fs : List SpelledField). with_points c.args.points.now c.in_ok-time.time walk.series (fields_spelled fs)) c.as_slice-2.ensures.value) c.in_err-add_points.ensures))

pub returns-in_err-note_all-clause-refused : goal.returns-in_err-note_all-clause-refused
returns-in_err-note_all-clause-refused c =
    let walk = c.args.known.now in
    let text = c.args.text.now in
    let found = fields_spelled c.read_fields.new.fields.items in
    let measurement = unescaped measurement_ends_at walk.measurement in
    let seen = seen_of c.args.kinds.now in
    let p = err_from_is_err_and c.from_residual-in_err-note_all.result c.from_residual-in_err-note_all.ensures.1 in
    rw (p.1, p.2)
    (rest-kinds _ seen c.args.moment measurement walk.reserved walk.series (front 32 false text) (unspaced (rest 32 false text)) found c.in_ok-time.time c.args.points.now c.add_points.new.points
    c.in_ok-behind.ensures.fields
    (ap (λ t. time_of c.args.moment t) (sym (c.without_spaces.ensures ∙ ap unspaced c.in_ok-behind.ensures.behind)) ∙ c.in_ok-time.ensures)
    (subst (λ (k : KnownHead). Step (unless (k.reserved || has_time_field found) ReservedName)) c.known.view_is
    (subst (λ (fs : List SpelledField). Step (unless (c.known.inside.reserved || has_time_field (fields_spelled fs)) ReservedName)) c.as_slice.ensures.value c.in_ok-names_step.ensures))
    (subst (λ (fs : List SpelledField). with_points c.args.points.now c.in_ok-time.time walk.series (fields_spelled fs) ≡ Ok c.add_points.new.points) c.as_slice-2.ensures.value c.in_ok-add_points.ensures)
    (refuses-along _ _ _ (ap (λ (fs : List SpelledField). note_all seen (unescaped measurement_ends_at c.known.inside.measurement.now) (fields_spelled fs)) c.as_slice-3.ensures.value
    ∙ ap (λ (k : KnownHead). note_all seen (unescaped measurement_ends_at k.measurement) found) c.known.view_is) c.in_err-note_all.ensures))
