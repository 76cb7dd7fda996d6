use Rattle.std.proofs.Common.{◌≡◌, length, map}
use Rattle.point_model.specs.Tags.{tag_of, text_of, parts_behind, tag_text}
use Rattle.point_model.proofs.tags.tag_value.Given as goal

-- the tag isn't one of those that were passed
abbrev pub invariant-tags : goal.invariant-tags
invariant-tags l = text_of l.key (map tag_of (parts_behind 44 l.left)) ≡ tag_text l.key l.series

abbrev pub decreases-tags : goal.decreases-tags
decreases-tags l = length l.left
