use Rattle.std.proofs.Common.{length}
use Rattle.line_protocol.proofs.WalkTagLemmas.{Left}
use Rattle.line_protocol.proofs.walk.walk_tags.Given as goal

abbrev pub invariant-tags : goal.invariant-tags
invariant-tags l = Left l.text l.last l.left l.ascend l.reserved

abbrev pub decreases-tags : goal.decreases-tags
decreases-tags l = length l.left
