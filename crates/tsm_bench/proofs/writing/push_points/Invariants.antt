use Rattle.std.proofs.Common.{ℕ, List, length, Option}
use Rattle.std.specs.Prelude.{IsTrue}
use Rattle.tsm_format.specs.Rows.{IsAbove}
use Rattle.tsm_file.specs.Tried.{HasPushed}
use Rattle.tsm_bench.proofs.RunLemmas.{IsUnderway}
use Rattle.tsm_bench.proofs.writing.push_points.Given as goal

-- the points but for the rest are pushed
abbrev pub invariant-loop-time : goal.invariant-loop-time
invariant-loop-time g l =
    (most : ℕ) (last : Option (List ℕ)) → HasPushed (IsTrue g.W.Writer.tells) g.W.Writer.content g.W.Writer.stage l.initial.writer most last → IsAbove last l.key
    → IsUnderway (IsTrue g.W.Writer.tells) g.W.Writer.content g.W.Writer.stage l.writer l.key most l.points l.rest

abbrev pub decreases-loop-time : goal.decreases-loop-time
decreases-loop-time g l = length l.rest
