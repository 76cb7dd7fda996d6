-- The bytes so far are taken in.
use Rattle.std.proofs.Common.{◌≡◌, take}
use Rattle.session_loop.specs.Shapes.{shape_behind}
use Rattle.session_loop.proofs.shape.shape_behind.Given as goal

abbrev pub invariant-loop-byte : goal.invariant-loop-byte
invariant-loop-byte l = l.shape ≡ shape_behind l.fn.shape (take l.byte-index l.bytes)
