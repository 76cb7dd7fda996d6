use Rattle.std.proofs.Common.{◌*◌, length, Some}
use Rattle.std.specs.Prelude.{IsTrue}
use Rattle.tsm_file.specs.Tried.{HasPushed}
use Rattle.tsm_bench.proofs.writing.push_keys.Given as goal

abbrev pub invariant-loop-number : goal.invariant-loop-number
invariant-loop-number g l = HasPushed (IsTrue g.W.Writer.tells) g.W.Writer.content g.W.Writer.stage l.writer (l.number * length l.points) (Some l.last.items)
