use Rattle.std.proofs.Common.{◌≡◌, length}
use Rattle.line_protocol.specs.Parts.{unspaced}
use Rattle.line_protocol.proofs.cut.without_spaces.Given as goal

abbrev pub invariant-loop-rest : goal.invariant-loop-rest
invariant-loop-rest l = unspaced l.left ≡ unspaced l.text

abbrev pub decreases-loop-rest : goal.decreases-loop-rest
decreases-loop-rest l = length l.left
