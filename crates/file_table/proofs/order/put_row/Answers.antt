use Rattle.std.proofs.Common.{sym, subst, ◌∷◌}
use Rattle.std.specs.List.Sorted.{IsPermutation}
use Rattle.std.proofs.lemmas.List.Sorted.{IsPermutation-insert}
use Rattle.file_table.proofs.OrderLemmas.{ordered_by_insert}
use Rattle.file_table.proofs.order.put_row.Goals as goal

pub returns-clause-ordered : goal.returns-clause-ordered
returns-clause-ordered c =
    ordered_by_insert (λ r. r.generation) c.args.rows.now.items c.deref.result.now _ c.older_than-at.result c.args.row c.deref.ensures.value c.requires.ordered
    c.older_than-at.ensures.bound c.older_than-at.ensures.older c.older_than-at.ensures.others c.put_at.ensures.items

pub returns-clause-added : goal.returns-clause-added
returns-clause-added c =
    subst (λ ys. IsPermutation (c.args.row ∷ c.args.rows.now.items) ys) (sym c.put_at.ensures.items)
    (IsPermutation-insert c.args.rows.now.items c.older_than-at.result c.args.row)

pub returns-clause-put : goal.returns-clause-put
returns-clause-put c = (c.older_than-at.result, c.put_at.ensures.items)
