use Rattle.std.proofs.Common.{◌≡◌, ◌≤◌}
use Rattle.time_codec.specs.Times.{greatest_exponent}
use Rattle.time_codec.proofs.differences.exponent.Given as goal

abbrev pub invariant-loop-exponent : goal.invariant-loop-exponent
invariant-loop-exponent l = (greatest_exponent l.exponent l.differences ≡ greatest_exponent 12 l.differences) × (l.exponent ≤ 12)

abbrev pub decreases-loop-exponent : goal.decreases-loop-exponent
decreases-loop-exponent l = l.exponent
