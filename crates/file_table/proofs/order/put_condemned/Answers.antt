use Rattle.std.proofs.Common.{sym, subst, ◌∷◌}
use Rattle.std.specs.List.Sorted.{IsPermutation}
use Rattle.std.proofs.lemmas.List.Sorted.{IsPermutation-insert}
use Rattle.file_table.proofs.OrderLemmas.{ordered_by_insert}
use Rattle.file_table.proofs.order.put_condemned.Goals as goal

pub returns-clause-ordered : goal.returns-clause-ordered
returns-clause-ordered c =
    ordered_by_insert (λ f. f.no) c.args.files.now.items c.deref.result.now _ c.lower_than-at.result c.args.file c.deref.ensures.value c.requires.ordered
    c.lower_than-at.ensures.bound c.lower_than-at.ensures.lower c.lower_than-at.ensures.others c.put_at.ensures.items

pub returns-clause-added : goal.returns-clause-added
returns-clause-added c =
    subst (λ ys. IsPermutation (c.args.file ∷ c.args.files.now.items) ys) (sym c.put_at.ensures.items)
    (IsPermutation-insert c.args.files.now.items c.lower_than-at.result c.args.file)
