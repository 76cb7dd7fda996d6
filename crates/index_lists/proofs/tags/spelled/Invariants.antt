use Rattle.std.proofs.Common.{◌≡◌, ◌++◌, length}
use Rattle.tsdb_types.specs.Series.{is_one_of}
use Rattle.tsdb_types.specs.Spelled.{unescaped}
use Rattle.index_lists.proofs.tags.spelled.Given as goal

-- what was written, and what the part that is left spells
abbrev pub invariant-loop-byte : goal.invariant-loop-byte
invariant-loop-byte l = l.text.items ++ unescaped (is_one_of l.ends) l.left ≡ unescaped (is_one_of l.ends) l.escaped

abbrev pub decreases-loop-byte : goal.decreases-loop-byte
decreases-loop-byte l = length l.left
