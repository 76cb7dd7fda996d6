use Rattle.std.proofs.Common.{◌≡◌, ℕ, Bool, List, ◌+◌, length}
use Rattle.std.specs.List.{filter}
use Rattle.std.specs.List.Sorted.{IsStrictlySortedBy}
use Rattle.std.specs.Ordering.{nat_cmp}
use Rattle.series_index.proofs.MergeLemmas.{HasMerged}
use Rattle.series_index.proofs.merge.either.Given as goal

-- the first ids are merged, from whatever list both are picked
abbrev pub invariant-loop-id : goal.invariant-loop-id
invariant-loop-id l = (all : List ℕ) (is also : ℕ → Bool) → IsStrictlySortedBy nat_cmp all → l.first ≡ filter is all → l.second ≡ filter also all → HasMerged all is also l.merged.items l.left l.right

abbrev pub decreases-loop-id : goal.decreases-loop-id
decreases-loop-id l = length l.left + length l.right
