use Rattle.std.proofs.Common.{◌≡◌, length, reverse}
use Rattle.point_model.specs.Flat.{left_open, begun}
use Rattle.point_model.proofs.sides.close.Given as goal

-- the sides that were closed are second ones
abbrev pub invariant-loop-side : goal.invariant-loop-side
invariant-loop-side l = record {
  begun : begun (reverse l.waiting.items) ≡ begun (reverse l.fn.waiting.items);
  left : left_open (reverse l.waiting.items) ≡ left_open (reverse l.fn.waiting.items);
}

abbrev pub decreases-loop-side : goal.decreases-loop-side
decreases-loop-side l = length l.waiting.items
