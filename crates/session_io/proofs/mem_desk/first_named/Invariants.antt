-- None of the clients before this one has these names.
use Rattle.std.proofs.Common.{take}
use Rattle.session_io.specs.MemDesks.{HasNames, IsNone}
use Rattle.session_io.proofs.mem_desk.first_named.Given as goal

abbrev pub invariant-loop-place : goal.invariant-loop-place
invariant-loop-place l = IsNone (HasNames l.input l.output) (take l.place l.held)
