use Rattle.std.proofs.Common.{◌≡◌, ◌++◌, drop}
use Rattle.line_protocol.specs.Sorted.{texts_of, joined}
use Rattle.line_protocol.proofs.sorted.spelled.Given as goal

-- what is written, and what is left of the tags, make the whole
abbrev pub invariant-loop-part : goal.invariant-loop-part
invariant-loop-part l = l.text.items ++ joined (texts_of (drop l.part-index l.parts)) ≡ l.measurement ++ joined (texts_of l.parts)
