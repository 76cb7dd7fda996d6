use Rattle.std.proofs.Common.{◌≡◌, ◌++◌, length, map}
use Rattle.point_model.specs.Tags.{parts_behind, tag_of}
use Rattle.index_lists.specs.Terms.{tags_terms}
use Rattle.index_lists.proofs.tags.add_tags.Given as goal

-- the terms that were added, and those of the tags that are left
abbrev pub invariant-tags : goal.invariant-tags
invariant-tags l = l.found.items ++ tags_terms l.measurement (map tag_of (parts_behind 44 l.left)) ≡ l.initial.found.items ++ tags_terms l.measurement (map tag_of (parts_behind 44 l.initial.left))

abbrev pub decreases-tags : goal.decreases-tags
decreases-tags l = length l.left
