-- The bytes so far are of the measurement, and what is left is read with or without a backslash before it.
use Rattle.std.proofs.Common.{◌≡◌, ◌++◌, take, drop}
use Rattle.point_model.specs.Measurements.{measurement_head, head_behind}
use Rattle.store_trait.proofs.heading.head_of.Given as goal

abbrev pub invariant-loop-at : goal.invariant-loop-at
invariant-loop-at l = measurement_head l.text ≡ take l.at l.text ++ head_behind l.escaped (drop l.at l.text)
