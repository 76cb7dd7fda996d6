use Rattle.std.proofs.Common.{◌<◌, [], ◌∷◌, ◌++◌, ℕ, List, length, slice_get, sym, ap, ◌∙◌, subst, arith}
use Rattle.std.proofs.lemmas.Bool.Decides.{nat_tests}
use Rattle.index_lists.proofs.NameLemmas.{names_one}
use Rattle.index_lists.proofs.names.add_name.Goals as goal

pub returns : goal.returns
returns c =
    let test = c.if-is_empty.false in
    let empty = c.is_empty.ensures in
    let some : 0 < length c.as_slice.result.now = grind (arith, nat_tests, test, empty) in
    let one =
    names_one c.args.heading.now (slice_get c.args.map.now.entries c.args.place) c.in-Some.term.now c.in-Some.list.now c.in-Some-name_under.name.now (sym c.in-Some.ensures.entry) (sym c.in-Some-name_under.ensures)
    (subst (λ (l : List ℕ). 0 < length l) c.as_slice.ensures.ids some) in
    c.in_ok-push.ensures.items ∙ ap (λ (n : List ℕ). c.args.names.now.items ++ n ∷ []) c.in_ok-carry.ensures ∙ ap (λ (l : List (List ℕ)). c.args.names.now.items ++ l) (sym one)
