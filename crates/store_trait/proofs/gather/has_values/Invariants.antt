-- No slot so far has a value.
use Rattle.std.proofs.Common.{◌≡◌}
use Rattle.store_trait.specs.Gathered.{has_value}
use Rattle.store_trait.proofs.gather.has_values.Given as goal

abbrev pub invariant-loop-time : goal.invariant-loop-time
invariant-loop-time l = has_value l.column.entries ≡ has_value l._time-iterator
