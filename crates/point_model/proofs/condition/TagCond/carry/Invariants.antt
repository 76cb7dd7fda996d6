use Rattle.std.proofs.Common.{◌≡◌, take}
use Rattle.point_model.proofs.condition.TagCond.carry.Given as goal

abbrev pub invariant-loop-of : goal.invariant-loop-of
invariant-loop-of l = l.parts.items ≡ take l.of-index l.of-items
