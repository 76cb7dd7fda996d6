use Rattle.std.proofs.Common.{ℕ, List, ◌≤◌, drop, length}
use Rattle.series_index.specs.Matching.{Told}
use Rattle.series_index.specs.Evaluation.{AreLists, conditions_in}
use Rattle.series_index.proofs.matching.evaluated.Given as goal

-- the lists of the conditions that the parts from here on are
abbrev pub invariant-loop-place : goal.invariant-loop-place
invariant-loop-place l =
    (l.place ≤ length l.parts)
    × ((series_of : ℕ → List ℕ) → Told series_of l.lists l.measurement l.all → AreLists series_of l.all (conditions_in (drop l.place l.parts)) l.waiting.items)

abbrev pub decreases-loop-place : goal.decreases-loop-place
decreases-loop-place l = l.place
