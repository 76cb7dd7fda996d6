-- What is written, and what is left of the name, are all.
use Rattle.std.proofs.Common.{◌≡◌, ◌++◌, drop}
use Rattle.session_model.specs.Replies.{name_text}
use Rattle.session_loop.proofs.replies.ReplyText.add_name.Given as goal

abbrev pub invariant-loop-byte : goal.invariant-loop-byte
invariant-loop-byte l = l.self ++ name_text (drop l.byte-index l.name) ≡ l.fn.self ++ name_text l.name
