use Rattle.compact_plan.proofs.LawLemmas.{one, lower, above, none}
use Rattle.compact_plan.proofs.plan.one_plan.Goals as goal

pub returns : goal.returns
returns c = record { one = one; lower = lower; above = above; none = none }
