use Rattle.std.proofs.Common.{length}
use Rattle.std.specs.Prelude.{◌↔◌}
use Rattle.tsdb_types.specs.Series.{tag_ends_at}
use Rattle.tsdb_types.specs.Spelled.{unescaped, IsTagsText}
use Rattle.tsdb_types.proofs.SpelledTagLemmas.{TagsBehind}
use Rattle.tsdb_types.proofs.spelled.are_tags.Given as goal

-- the text is tags exactly where what is left of it is tags with keys above the last one
abbrev pub invariant-tags : goal.invariant-tags
invariant-tags l = IsTagsText l.text ↔ TagsBehind (unescaped tag_ends_at l.last) l.left

abbrev pub decreases-tags : goal.decreases-tags
decreases-tags l = length l.left
