use Rattle.std.proofs.Common.{◌≡◌}
use Rattle.std.specs.Ordering.{nat_cmp}
use Rattle.std.specs.declared.cmp.Ordering.TheVariants.{Less}
use Rattle.std.specs.Cmp.Lexicographic.{slice_cmp}
use Rattle.std.specs.List.{AllAdjacentBelow}
use Rattle.tsdb_types.proofs.series.ascend.Given as goal

abbrev pub invariant-loop-at : goal.invariant-loop-at
invariant-loop-at l = AllAdjacentBelow (λ tag next. slice_cmp nat_cmp tag.key next.key ≡ Less) l.tags l.at
