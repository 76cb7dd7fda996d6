use Rattle.std.proofs.Common.{◌≡◌, ◌++◌}
use Rattle.query_model.proofs.condition.put.Given as goal

-- what was put, and what is left
abbrev pub invariant-loop-part : goal.invariant-loop-part
invariant-loop-part l = l.out.items ++ l.part-iterator.rest.items ≡ l.fn.out.items ++ l.fn.parts.items
