use Rattle.std.proofs.Common.{◌≡◌, ℤ, ◌≤ℤ◌, ◌<ℤ◌, take, drop, sym, ap, ◌∙◌, subst, rules, FitsSigned, w64, to_z, of_z}
use Rattle.std.specs.List.{AllByRecursion}
use Rattle.std.proofs.lemmas.Int.{to_z-of_z}
use Rattle.std.proofs.lemmas.Result.{IfOk-weaker}
use Rattle.tsm_format.specs.declared.entry.Entry.{Entry}
use Rattle.tsm_file.specs.ReadPoints.{Meets, Picks}
use Rattle.tsm_file.proofs.PickLemmas.{between, none_between, none_meet}
use Rattle.tsm_file.proofs.pick.meeting.Goals as goal

pub returns-then-lt : goal.returns-then-lt
returns-then-lt c =
    let lt : c.args.to <ℤ c.args.from = search rules in
    subst (Picks (Meets c.args.from c.args.to) c.args.entries.now) (sym c.new.ensures.items) (none_meet c.args.from c.args.to c.args.entries.now lt)

pub returns-then-end-first : goal.returns-then-end-first
returns-then-end-first c =
    let entries = c.args.entries.now in
    let first = c.ended_before-first.result in
    let end = c.begun_by-end.result in
    let fits : FitsSigned w64 c.get.result = search rules in
    let from : to_z w64 (of_z w64 c.get.result) ≡ c.args.from = to_z-of_z w64 c.get.result fits ∙ c.get.ensures.value in
    let fits' : FitsSigned w64 c.get-2.result = search rules in
    let to : to_z w64 (of_z w64 c.get-2.result) ≡ c.args.to = to_z-of_z w64 c.get-2.result fits' ∙ c.get-2.ensures.value in
    let early = subst (λ (t : ℤ). AllByRecursion (λ (e : Entry). e.max <ℤ t) (take first entries)) from c.ended_before-first.ensures.ended in
    let behind = subst (λ (t : ℤ). AllByRecursion (λ (e : Entry). t <ℤ e.min) (drop end entries)) to c.begun_by-end.ensures.others in
    subst (Picks (Meets c.args.from c.args.to) entries) (sym c.new-then-end-first.ensures.items)
    (none_between c.args.from c.args.to entries first end c.if-end-first.true early behind)

pub returns : goal.returns
returns c =
    let entries = c.args.entries.now in
    let first = c.ended_before-first.result in
    let end = c.begun_by-end.result in
    let fits : FitsSigned w64 c.get.result = search rules in
    let from : to_z w64 (of_z w64 c.get.result) ≡ c.args.from = to_z-of_z w64 c.get.result fits ∙ c.get.ensures.value in
    let fits' : FitsSigned w64 c.get-2.result = search rules in
    let to : to_z w64 (of_z w64 c.get-2.result) ≡ c.args.to = to_z-of_z w64 c.get-2.result fits' ∙ c.get-2.ensures.value in
    let early = subst (λ (t : ℤ). AllByRecursion (λ (e : Entry). e.max <ℤ t) (take first entries)) from c.ended_before-first.ensures.ended in
    let late = subst (λ (t : ℤ). AllByRecursion (λ (e : Entry). t ≤ℤ e.max) (drop first entries)) from c.ended_before-first.ensures.others in
    let begun = subst (λ (t : ℤ). AllByRecursion (λ (e : Entry). e.min ≤ℤ t) (take end entries)) to c.begun_by-end.ensures.begun in
    let behind = subst (λ (t : ℤ). AllByRecursion (λ (e : Entry). t <ℤ e.min) (drop end entries)) to c.begun_by-end.ensures.others in
    let some : c.args.from ≤ℤ c.args.to = search rules in
    let met : c.split_at-2.result.1.now ≡ drop c.ended_before-first.result (take c.begun_by-end.result c.args.entries.now) = c.split_at-2.ensures.back ∙ ap (drop first) c.split_at.ensures.front in
    IfOk-weaker c.from_slice.result _ _
    (λ v is. subst (Picks (Meets c.args.from c.args.to) entries) (sym (is ∙ met)) (between c.args.from c.args.to entries first end some c.if-end-first.false c.begun_by-end.ensures.bound early late begun behind))
    c.from_slice.ensures.items
