use Rattle.std.proofs.Common.{◌≡◌}
use Rattle.std.specs.declared.cmp.Ordering.TheVariants.{Less}
use Rattle.std.specs.List.{AllAdjacentBelow}
use Rattle.line_protocol.specs.Sorted.{part_cmp}
use Rattle.line_protocol.proofs.sorted.ascend.Given as goal

abbrev pub invariant-loop-at : goal.invariant-loop-at
invariant-loop-at l = AllAdjacentBelow (λ part next. part_cmp part next ≡ Less) l.parts l.at
