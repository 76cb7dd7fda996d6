use Rattle.std.proofs.Common.{◌≡◌, ◌+◌, ◌≤◌, true, drop}
use Rattle.point_model.specs.Flat.{walk}
use Rattle.point_model.proofs.condition.TagCond.meets.Given as goal

-- the parts that are left lead on to the answer of the whole
abbrev pub invariant-loop-of : goal.invariant-loop-of
invariant-loop-of l = record {
  answer : walk l.series (l.met, l.passing) (drop l.of-index l.of-items) ≡ walk l.series (true, 0) l.of-items;
  few : l.passing ≤ l.of-index + 1;
}
