use Rattle.std.proofs.Common.{Bool, ◌||◌, ◌+◌, List, drop, sym, ap, ◌∙◌, arith}
use Rattle.std.proofs.lemmas.List.{drop_all}
use Rattle.line_protocol.specs.declared.spelled_field.SpelledField.{SpelledField}
use Rattle.line_protocol.specs.Fields.{fields_spelled}
use Rattle.line_protocol.specs.Lines.{has_time_field}
use Rattle.line_protocol.proofs.LineLemmas.{time-at}
use Rattle.line_protocol.proofs.line.has_time.Goals as goal

pub loop-field-preserved : goal.loop-field-preserved
loop-field-preserved c =
    let i = c.loop-field.field-index in
    let step = time-at c.args.fields.now i c.field-item.result c.loop-field-test.true c.field-item.is in
    sym (step ∙ ap (λ (t : Bool). t || has_time_field (fields_spelled (drop (i + 1) c.args.fields.now))) (sym c.is_time.ensures ∙ c.if-is_time.false)) ∙ c.loop-field.invariant

pub returns-then-is_time : goal.returns-then-is_time
returns-then-is_time c =
    let i = c.loop-field.field-index in
    let step = time-at c.args.fields.now i c.field-item.result c.loop-field-test.true c.field-item.is in
    sym (sym c.loop-field.invariant ∙ step ∙ ap (λ (t : Bool). t || has_time_field (fields_spelled (drop (i + 1) c.args.fields.now))) (sym c.is_time.ensures ∙ c.if-is_time.true))

pub returns : goal.returns
returns c = sym (sym c.loop-field.invariant ∙ ap (λ (t : List SpelledField). has_time_field (fields_spelled t)) (drop_all c.loop-field.field-index c.args.fields.now (omega arith)))
