use Rattle.std.proofs.Common.{List, [], ◌∷◌, sym, ap, ◌∙◌}
use Rattle.std.proofs.lemmas.List.{map-append}
use Rattle.line_protocol.specs.declared.field.Field.{Field}
use Rattle.line_protocol.specs.declared.spelled_field.SpelledField.{SpelledField}
use Rattle.line_protocol.specs.Fields.{first_before, prefixed, field_spelled, fields_spelled}
use Rattle.line_protocol.proofs.ReadingLemmas.{prefixed-push}
use Rattle.line_protocol.proofs.field.push_field.Goals as goal

pub returns-in_ok-push-in-Ok-clause-ok : goal.returns-in_ok-push-in-Ok-clause-ok
returns-in_ok-push-in-Ok-clause-ok c = λ more.
    let old = c.args.fields.now.items in
    let pushed = ap (λ (fs : List SpelledField). fields_spelled fs) c.in_ok-push-in-Ok.ensures.items ∙ map-append field_spelled old (c.in-Ok.field ∷ []) in
    ap (λ r. prefixed (fields_spelled old) (first_before r more)) c.in-Ok.ensures.field
    ∙ prefixed-push (fields_spelled old) (field_spelled c.in-Ok.field) more
    ∙ ap (λ (fs : List Field). prefixed fs more) (sym pushed)
