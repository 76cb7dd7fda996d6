use Rattle.std.proofs.Common.{◌∙◌, sym, ap, arith, rules, length}
use Rattle.manifest_log.proofs.EditLemmas.{four_at_least, same_parts, ok_none_from}
use Rattle.manifest_log.proofs.take.take_edit.Goals as goal

pub returns-in_default-clause-none : goal.returns-in_default-clause-none
returns-in_default-clause-none c = λ changes writable is. omega (arith, c.in_default.ensures.cut, ap length is, four_at_least changes)

pub returns-clause-none : goal.returns-clause-none
returns-clause-none c =
    ok_none_from c.take_changes.result
    (λ none changes writable is.
    let parts = same_parts c.in-Some.count c.in-Some.rest.now changes (search rules) writable (sym c.in-Some.ensures.found ∙ is) in
    none changes writable.room parts.0 parts.1)
    c.take_changes.ensures.none
