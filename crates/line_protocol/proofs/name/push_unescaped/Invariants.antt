use Rattle.std.proofs.Common.{◌≡◌, ◌++◌, length}
use Rattle.tsdb_types.specs.Series.{is_one_of}
use Rattle.tsdb_types.specs.Spelled.{unescaped}
use Rattle.line_protocol.proofs.name.push_unescaped.Given as goal

abbrev pub invariant-loop-byte : goal.invariant-loop-byte
invariant-loop-byte l = l.text.items ++ unescaped (is_one_of l.ends) l.left ≡ l.fn.text.items ++ unescaped (is_one_of l.ends) l.part

abbrev pub decreases-loop-byte : goal.decreases-loop-byte
decreases-loop-byte l = length l.left
