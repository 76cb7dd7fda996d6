-- None of the directories before this one has this path.
use Rattle.std.proofs.Common.{take}
use Rattle.session_io.specs.MemDesks.{HasPath, IsNone}
use Rattle.session_io.proofs.mem_desk.first_at.Given as goal

abbrev pub invariant-loop-place : goal.invariant-loop-place
invariant-loop-place g l = IsNone (HasPath l.path) (take l.place l.dirs)
