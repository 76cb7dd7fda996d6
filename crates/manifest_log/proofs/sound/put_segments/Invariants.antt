use Rattle.std.proofs.Common.{◌≡◌, ◌++◌, take}
use Rattle.manifest_log.proofs.sound.put_segments.Given as goal

abbrev pub invariant-loop-segment : goal.invariant-loop-segment
invariant-loop-segment l = l.all.items ≡ l.initial.all.items ++ take l.segment-index l.segments
