use Rattle.std.proofs.Common.{◌≡◌, length}
use Rattle.compact_plan.proofs.PlanLemmas.{IsWindow}
use Rattle.compact_plan.proofs.window.first_group.Given as goal

abbrev pub invariant-loop-k : goal.invariant-loop-k
invariant-loop-k l = record { window : IsWindow l.table.rows l.level l.size l.start l.k l.entries; end : l.k-end ≡ length l.table.rows }
