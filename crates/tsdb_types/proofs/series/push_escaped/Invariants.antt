use Rattle.std.proofs.Common.{◌≡◌, ◌++◌, drop}
use Rattle.tsdb_types.specs.Series.{is_one_of, escaped}
use Rattle.tsdb_types.proofs.series.push_escaped.Given as goal

-- what is written, and what is left of the name, make the whole
abbrev pub invariant-loop-byte : goal.invariant-loop-byte
invariant-loop-byte l = l.text.items ++ escaped (is_one_of l.ends) (drop l.byte-index l.name) ≡ l.fn.text.items ++ escaped (is_one_of l.ends) l.name
