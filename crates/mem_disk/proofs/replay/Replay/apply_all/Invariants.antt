-- The changes so far are replayed.
use Rattle.std.proofs.Common.{take}
use Rattle.std.specs.Prelude.{reverse}
use Rattle.mem_disk.specs.Replayed.{Replays}
use Rattle.mem_disk.proofs.replay.Replay.apply_all.Given as goal

abbrev pub invariant-loop-change : goal.invariant-loop-change
invariant-loop-change l = Replays (reverse (take l.change-index l.changes)) l.self.read l.self.left
