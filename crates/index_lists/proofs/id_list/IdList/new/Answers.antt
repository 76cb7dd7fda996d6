use Rattle.std.proofs.Common.{List, ℕ, length, sym, subst, ap, arith}
use Rattle.std.specs.List.Sorted.{IsStrictlySortedBy}
use Rattle.std.specs.Ordering.{nat_cmp}
use Rattle.index_lists.proofs.IdLemmas.{none_ascend}
use Rattle.index_lists.proofs.id_list.IdList.new.Goals as goal

pub invariant_of-result : goal.invariant_of-result
invariant_of-result c = (
  subst (λ (l : List ℕ). IsStrictlySortedBy nat_cmp l) (sym c.new.ensures.items) none_ascend,
  let none = ap length c.new.ensures.items in omega (arith, none),
)
