-- The points so far are staged, and the place is that of the last one.
use Rattle.std.proofs.Common.{take}
use Rattle.point_cache.specs.Steps.{Grows, WillSet, IsPlaceBefore}
use Rattle.point_cache.proofs.runs.Runs.stage.Given as goal

abbrev pub invariant-loop-i : goal.invariant-loop-i
invariant-loop-i l = record {
  grows : Grows l.initial.self.entries l.self.entries;
  sets : WillSet (take l.i l.points) l.initial.self.entries l.self.entries;
  before : IsPlaceBefore l.self l.points l.i l.place;
}
