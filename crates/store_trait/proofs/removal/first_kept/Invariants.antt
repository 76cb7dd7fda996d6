-- No row so far keeps its value.
use Rattle.std.proofs.Common.{◌≡◌}
use Rattle.store_trait.specs.Removals.{first_offered, time_kept}
use Rattle.store_trait.proofs.removal.first_kept.Given as goal

abbrev pub invariant-loop-time : goal.invariant-loop-time
invariant-loop-time l = first_offered (time_kept l.deletion l.met) l.column.entries ≡ first_offered (time_kept l.deletion l.met) l.time-iterator
