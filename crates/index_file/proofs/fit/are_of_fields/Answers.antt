use Rattle.std.proofs.Common.{◌≡◌, false, List, length, replicate, map, take, sym, ap, ◌∙◌, refl, subst, rules}
use Rattle.std.specs.List.{list_any}
use mathlib.Core.Bool.{beq}
use Rattle.std.proofs.lemmas.List.{take_all}
use Rattle.index_file.specs.declared.content.NameIds.{NameIds}
use Rattle.index_file.specs.Contents.{AreAllAmong, some_has}
use Rattle.index_file.proofs.FitLemmas.{unmarked, fields_all}
use Rattle.index_file.proofs.fit.are_of_fields.Goals as goal

pub loop-field-init : goal.loop-field-init
loop-field-init c =
    let same : c.in_ok-marks.marks.items ≡ replicate (length c.args.ids.now) false = search rules in
    (tt, same ∙ sym (unmarked c.args.ids.now))

pub returns : goal.returns
returns c =
    let end : take c.loop-field.field-index c.args.fields.now ≡ c.args.fields.now = take_all c.loop-field.field-index c.args.fields.now c.loop-field-test.false in
    fields_all (λ b. beq b false) refl refl c.args.ids.now c.args.fields.now c.loop-field.marks.items c.contains.result
    (subst (λ (fs : List NameIds). AreAllAmong c.args.ids.now fs) end c.loop-field.invariant.0)
    (c.loop-field.invariant.1 ∙ ap (λ (fs : List NameIds). map (some_has fs) c.args.ids.now) end)
    (c.contains.ensures.value ∙ ap (list_any (λ b. beq b false)) c.deref.ensures.value)
