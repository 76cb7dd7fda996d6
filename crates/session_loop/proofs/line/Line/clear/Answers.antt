-- Nothing is held.
use Rattle.std.proofs.Common.{sym}
use Rattle.session_loop.specs.LineAsItComes.{most_kept}
use Rattle.session_loop.proofs.KeepingLemmas.{shape_nothing}
use Rattle.session_loop.proofs.line.Line.clear.Goals as goal

pub returns : goal.returns
unfolding most_kept
returns c = record { kept = c.clear.ensures.items; shape = sym shape_nothing }
