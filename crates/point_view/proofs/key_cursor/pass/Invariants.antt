-- The heads so far are those that aren't at the time.
use Rattle.std.proofs.Common.{◌≡◌, ◌++◌, map, take, drop}
use Rattle.point_view.specs.Heads.{head_passed}
use Rattle.point_view.proofs.key_cursor.pass.Given as goal

abbrev pub invariant-loop-head : goal.invariant-loop-head
invariant-loop-head l = l.head-items ≡ map (head_passed l.time) (take l.head-index l.initial.head-items) ++ drop l.head-index l.initial.head-items
