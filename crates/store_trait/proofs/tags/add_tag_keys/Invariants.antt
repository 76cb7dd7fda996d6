use Rattle.std.proofs.Common.{◌≡◌, ◌++◌, length, map}
use Rattle.point_model.specs.Tags.{parts_behind}
use Rattle.store_trait.specs.Tags.{tag_key}
use Rattle.store_trait.proofs.tags.add_tag_keys.Given as goal

abbrev pub invariant-tags : goal.invariant-tags
invariant-tags l = l.found.items ++ map tag_key (parts_behind 44 l.left) ≡ l.initial.found.items ++ map tag_key (parts_behind 44 l.initial.left)

abbrev pub decreases-tags : goal.decreases-tags
decreases-tags l = length l.left
