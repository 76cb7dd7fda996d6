use Rattle.std.proofs.Common.{◌≡◌, ◌/◌, ◌++◌, take, drop}
use Rattle.std.specs.Prelude.{map}
use Rattle.time_codec.proofs.differences.divide_all.Given as goal

abbrev pub invariant-loop-difference : goal.invariant-loop-difference
invariant-loop-difference g l = l.differences ≡ map (λ difference. difference / g.row.UNIT) (take l.difference-index l.initial.differences) ++ drop l.difference-index l.initial.differences
