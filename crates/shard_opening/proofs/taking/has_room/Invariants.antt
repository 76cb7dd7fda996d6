-- what is counted, and what is left
use Rattle.std.proofs.Common.{◌≡◌, ◌+◌, ◌≤◌, ◌^◌, drop}
use Rattle.point_model.specs.Sizes.{runs_length}
use Rattle.shard_opening.proofs.taking.has_room.Given as goal

abbrev pub invariant-loop-i : goal.invariant-loop-i
invariant-loop-i l = record {
  total : l.length + runs_length (drop l.i l.points) ≡ 17 + runs_length l.points;
  small : l.length ≤ 2 ^ 30;
}
