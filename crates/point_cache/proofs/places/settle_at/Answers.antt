use Rattle.std.proofs.Common.{◌≡◌, List, length, sum_by, slice_get, Some, None, inr, sym, ap, ◌∙◌, subst, arith}
use Rattle.std.proofs.lemmas.Result.{on_ok_weaker}
use Rattle.indexmap.specs.Layout.{set_value_at}
use Rattle.point_cache.specs.Cached.{AreAscending}
use Rattle.point_cache.specs.Staged.{Staged, Entry, entries_of}
use Rattle.point_cache.proofs.EntryLemmas.{entries_of-set, keys_apart, slot_of, set_same, sum-set, sum-at, none_there}
use Rattle.point_cache.proofs.places.settle_at.Goals as goal

pub settle_run-requires : goal.settle_run-requires
settle_run-requires c =
    let slots = c.args.map.now.entries in
    let slot = slot_of slots c.args.place c.in-Some.run'.now (sym c.in-Some.ensures.value) in
    let some = sum-at (λ (x : Staged). length x.next) (entries_of slots) c.args.place (slot.0, c.in-Some.run'.now) slot.1 in
    let all = c.requires in
    omega (arith, some, all)

pub returns-in-Some-clause-settled : goal.returns-in-Some-clause-settled
returns-in-Some-clause-settled c =
    let slots = c.args.map.now.entries in
    let slot = slot_of slots c.args.place c.in-Some.run'.now (sym c.in-Some.ensures.value) in
    inr ((slot.0, c.in-Some.run'.now), c.settle_run.new.run, slot.1, c.settle_run.ensures.settled, entries_of-set slots c.args.place c.settle_run.new.run, keys_apart slots c.get_index_mut.ensures.unique)

pub returns-in-Some-clause-counted : goal.returns-in-Some-clause-counted
returns-in-Some-clause-counted c =
    let slots = c.args.map.now.entries in
    let slot = slot_of slots c.args.place c.in-Some.run'.now (sym c.in-Some.ensures.value) in
    let set = sum-set (λ (x : Staged). length x.next) (entries_of slots) c.args.place (slot.0, c.in-Some.run'.now) c.settle_run.new.run slot.1 in
    let all = c.requires in
    let run = c.settle_run.ensures.counted in
    let is : c.settle_run.new.total ≡ sum_by (λ (entry : Entry). length entry.1.next) (set_value_at (entries_of slots) c.args.place c.settle_run.new.run) = omega (arith, set, all, run) in
    is ∙ ap (sum_by (λ (entry : Entry). length entry.1.next)) (sym (entries_of-set slots c.args.place c.settle_run.new.run))

pub returns-in-Some-clause-ok : goal.returns-in-Some-clause-ok
returns-in-Some-clause-ok c =
    let slots = c.args.map.now.entries in
    let slot = slot_of slots c.args.place c.in-Some.run'.now (sym c.in-Some.ensures.value) in
    on_ok_weaker c.settle_run.result
    (λ ascending entry at.
    let there = set_same (entries_of slots) c.args.place (slot.0, c.in-Some.run'.now) c.settle_run.new.run slot.1 in
    let both : Some entry ≡ Some (slot.0, c.settle_run.new.run) = sym at ∙ ap (λ (es : List Entry). slice_get es c.args.place) (entries_of-set slots c.args.place c.settle_run.new.run) ∙ there in
    let same : entry ≡ (slot.0, c.settle_run.new.run) = cc in
    subst (λ (e : Entry). AreAscending e.1.next) (sym same) ascending) c.settle_run.ensures.ok

pub returns-in-None-clause-ok : goal.returns-in-None-clause-ok
returns-in-None-clause-ok c = λ entry at.
    let none = none_there c.args.map.now.entries c.args.place (sym c.in-None.ensures.value) in
    let both : Some entry ≡ None = sym at ∙ none in
    absurd cc
