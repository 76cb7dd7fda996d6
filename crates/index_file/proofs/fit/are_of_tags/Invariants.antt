use Rattle.std.proofs.Common.{take}
use Rattle.std.specs.List.{AllByRecursion}
use Rattle.index_file.specs.declared.content.TagIds.{TagIds}
use Rattle.index_file.specs.Contents.{AreAllAmong}
use Rattle.index_file.proofs.fit.are_of_tags.Given as goal

-- those of the tags so far are among the others
abbrev pub invariant-loop-tag : goal.invariant-loop-tag
invariant-loop-tag l = AllByRecursion (λ (tag : TagIds). AreAllAmong l.ids tag.values) (take l.tag-index l.tags)
