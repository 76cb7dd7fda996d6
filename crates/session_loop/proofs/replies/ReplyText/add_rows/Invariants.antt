-- What is written, and the rows that are left, are all.
use Rattle.std.proofs.Common.{◌≡◌, ◌++◌, drop, map}
use Rattle.session_model.specs.Replies.{row_line, ended}
use Rattle.session_model.specs.Machine.{shown_row}
use Rattle.session_loop.proofs.replies.ReplyText.add_rows.Given as goal

abbrev pub invariant-loop-row : goal.invariant-loop-row
invariant-loop-row l = l.self ++ ended (map row_line (map shown_row (drop l.row-index l.rows))) ≡ l.fn.self ++ ended (map row_line (map shown_row l.rows))
