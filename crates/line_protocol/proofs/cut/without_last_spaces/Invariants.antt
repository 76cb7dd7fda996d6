use Rattle.std.proofs.Common.{◌≡◌, length, false}
use Rattle.line_protocol.specs.Parts.{unspaced_end}
use Rattle.line_protocol.proofs.cut.without_last_spaces.Given as goal

abbrev pub invariant-loop-rest : goal.invariant-loop-rest
invariant-loop-rest l = unspaced_end false l.left ≡ unspaced_end false l.text

abbrev pub decreases-loop-rest : goal.decreases-loop-rest
decreases-loop-rest l = length l.left
