use Rattle.std.proofs.Common.{ℕ, ◌<◌, ◌≤◌}
use Rattle.compact_plan.specs.Plans.{BeginsGroup}
use Rattle.compact_plan.proofs.plan.first_of_levels.Given as goal

abbrev pub invariant-loop-level : goal.invariant-loop-level
invariant-loop-level l = (lower : ℕ) → l.lowest ≤ lower → lower < l.level → (place : ℕ) → ¬ BeginsGroup l.table.rows lower place
