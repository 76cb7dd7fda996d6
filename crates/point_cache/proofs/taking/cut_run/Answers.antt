use Rattle.std.proofs.Common.{◌≡◌, ◌+◌, List, length, sum_by, slice_get, Some, None, inl, inr, refl, sym, ap, ◌∙◌}
use Rattle.indexmap.specs.Layout.{set_value_at}
use Rattle.point_cache.specs.Staged.{Entry, entries_of}
use Rattle.point_cache.proofs.EntryLemmas.{entries_of-set, keys_apart, slot_of, set_same, none_there}
use Rattle.point_cache.proofs.TakeLemmas.{cut_counted}
use Rattle.point_cache.proofs.taking.cut_run.Goals as goal

pub returns-in-Some-clause-changed : goal.returns-in-Some-clause-changed
returns-in-Some-clause-changed c =
    let slots = c.args.map.now.entries in
    let slot = slot_of slots c.args.place c.in-Some.run'.now (sym c.in-Some.ensures.value) in
    inr ((slot.0, c.in-Some.run'.now), slot.1, entries_of-set slots c.args.place c.cut.new.run ∙ ap (set_value_at (entries_of slots) c.args.place) c.cut.ensures.changed)

pub returns-in-Some-clause-counted : goal.returns-in-Some-clause-counted
returns-in-Some-clause-counted c =
    let slots = c.args.map.now.entries in
    let slot = slot_of slots c.args.place c.in-Some.run'.now (sym c.in-Some.ensures.value) in
    ap (λ (es : List Entry). c.cut.result.0 + sum_by (λ (e : Entry). length e.1.live) es) (entries_of-set slots c.args.place c.cut.new.run)
    ∙ cut_counted c.args.from c.args.to (entries_of slots) c.args.place (slot.0, c.in-Some.run'.now) c.cut.new.run c.cut.result.0 slot.1 c.cut.ensures.counted

pub returns-in-Some-clause-left : goal.returns-in-Some-clause-left
returns-in-Some-clause-left c = λ entry at.
    let slots = c.args.map.now.entries in
    let slot = slot_of slots c.args.place c.in-Some.run'.now (sym c.in-Some.ensures.value) in
    let there = set_same (entries_of slots) c.args.place (slot.0, c.in-Some.run'.now) c.cut.new.run slot.1 in
    let both : Some entry ≡ Some (slot.0, c.cut.new.run) = sym at ∙ ap (λ (es : List Entry). slice_get es c.args.place) (entries_of-set slots c.args.place c.cut.new.run) ∙ there in
    let same : entry ≡ (slot.0, c.cut.new.run) = cc in
    c.cut.ensures.left ∙ ap (λ (e : Entry). length e.1.live) (sym same)

pub returns-in-Some-clause-apart : goal.returns-in-Some-clause-apart
returns-in-Some-clause-apart c = keys_apart c.args.map.now.entries c.get_index_mut.ensures.unique

pub returns-in-None-clause-changed : goal.returns-in-None-clause-changed
returns-in-None-clause-changed c = inl (none_there c.args.map.now.entries c.args.place (sym c.in-None.ensures.value), refl)

pub returns-in-None-clause-left : goal.returns-in-None-clause-left
returns-in-None-clause-left c = λ entry at.
    let none = none_there c.args.map.now.entries c.args.place (sym c.in-None.ensures.value) in
    let both : Some entry ≡ None = sym at ∙ none in
    absurd cc

pub returns-in-None-clause-apart : goal.returns-in-None-clause-apart
returns-in-None-clause-apart c = keys_apart c.args.map.now.entries c.get_index_mut.ensures.unique
