use Rattle.std.proofs.Common.{◌≡◌, ◌++◌, None}
use Rattle.point_model.specs.Flat.{parts_of}
use Rattle.point_model.proofs.FlatLemmas.{placed_if}
use Rattle.point_model.proofs.condition.TagCond.put_side.Given as goal

-- what was put, and what is left
abbrev pub invariant-loop-own : goal.invariant-loop-own
invariant-loop-own l = l.out.items ++ placed_if l.is_first l.fn.of l.own-iterator.rest.items ≡ l.fn.out.items ++ parts_of l.fn.of l.fn.self
