use Rattle.std.proofs.Common.{ℕ, List, Option}
use Rattle.std.specs.Prelude.{IsTrue}
use Rattle.tsm_format.specs.Rows.{IsAbove}
use Rattle.tsm_file.specs.Tried.{HasPushed}
use Rattle.tsm_file.proofs.TriedLemmas.{IsRun}
use Rattle.file_tests.proofs.writing.push_run.Given as goal

-- so many points of the key are pushed
abbrev pub invariant-loop-n : goal.invariant-loop-n
invariant-loop-n g l =
    (most : ℕ) (last : Option (List ℕ)) → HasPushed (IsTrue g.W.Writer.tells) g.W.Writer.content g.W.Writer.stage l.initial.writer most last → IsAbove last l.key
    → IsRun (IsTrue g.W.Writer.tells) g.W.Writer.content g.W.Writer.stage l.writer l.key most l.n last
