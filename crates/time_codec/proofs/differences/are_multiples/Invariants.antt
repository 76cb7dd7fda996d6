use Rattle.std.proofs.Common.{◌≡◌, ◌%◌, eqb, drop}
use Rattle.std.specs.List.{list_all}
use Rattle.time_codec.proofs.differences.are_multiples.Given as goal

abbrev pub invariant-loop-difference : goal.invariant-loop-difference
invariant-loop-difference g l = list_all (λ difference. eqb (difference % g.row.UNIT) 0) (drop l.difference-index l.differences) ≡ list_all (λ difference. eqb (difference % g.row.UNIT) 0) l.differences
