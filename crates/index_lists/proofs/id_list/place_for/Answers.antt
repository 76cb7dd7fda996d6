use Rattle.std.proofs.Common.{ℕ, ◌-◌, ◌<◌, length, sym, subst, rules}
use Rattle.std.proofs.lemmas.Option.{get_or_from_slice_get}
use Rattle.index_lists.proofs.IdLemmas.{above_last, found_there, not_found}
use Rattle.index_lists.proofs.id_list.place_for.Goals as goal

pub returns-then-last-id-clause-found : goal.returns-then-last-id-clause-found
returns-then-last-id-clause-found c =
    let ids = c.args.ids.now in
    let at = get_or_from_slice_get ids (length ids - 1) c.in-Some.last.now 0 (sym c.in-Some.ensures.value) in
    let less = c.if-last-id.true in
    (above_last ids c.args.id c.requires (subst (λ (x : ℕ). x < c.args.id) (sym at) (search rules))).1

pub returns-then-last-id-clause-lacks : goal.returns-then-last-id-clause-lacks
returns-then-last-id-clause-lacks c =
    let ids = c.args.ids.now in
    let at = get_or_from_slice_get ids (length ids - 1) c.in-Some.last.now 0 (sym c.in-Some.ensures.value) in
    (above_last ids c.args.id c.requires (subst (λ (x : ℕ). x < c.args.id) (sym at) (search rules))).0

pub returns-in-Ok-clause-none : goal.returns-in-Ok-clause-none
returns-in-Ok-clause-none c = found_there c.args.ids.now c.args.id c.in-Ok.field-0 c.requires c.in-Ok.ensures.position

pub returns-in-Err-clause-found : goal.returns-in-Err-clause-found
returns-in-Err-clause-found c = (not_found c.args.ids.now c.args.id c.in-Err.place c.requires c.in-Err.ensures.position).1

pub returns-in-Err-clause-lacks : goal.returns-in-Err-clause-lacks
returns-in-Err-clause-lacks c = (not_found c.args.ids.now c.args.id c.in-Err.place c.requires c.in-Err.ensures.position).0
