use Rattle.std.proofs.Common.{◌≡◌, ◌++◌, length}
use Rattle.tsdb_types.specs.Series.{tag_ends_at}
use Rattle.tsdb_types.specs.Spelled.{unescaped}
use Rattle.point_model.specs.Tags.{tag_text}
use Rattle.point_model.proofs.tags.text_of_tag.Given as goal

-- what was put, and what the part that is left spells
abbrev pub invariant-loop-byte : goal.invariant-loop-byte
invariant-loop-byte l = l.text.items ++ unescaped tag_ends_at l.left ≡ tag_text l.fn.key l.fn.series

abbrev pub decreases-loop-byte : goal.decreases-loop-byte
decreases-loop-byte l = length l.left
