use Rattle.std.proofs.Common.{◌≡◌, ◌++◌, length, take}
use Rattle.std.specs.List.{flat_map}
use Rattle.fixed_width.specs.Fields.{bytes_of_u32}
use Rattle.index_file.specs.Format.{tag_bytes}
use Rattle.index_file.proofs.put.put_tags.Given as goal

-- the count, and those so far are written
abbrev pub invariant-loop-tag : goal.invariant-loop-tag
invariant-loop-tag l = l.out.items ≡ (l.fn.out.items ++ bytes_of_u32 (length l.tags)) ++ flat_map tag_bytes (take l.tag-index l.tags)
