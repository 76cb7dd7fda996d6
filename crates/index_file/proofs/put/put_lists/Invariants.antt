use Rattle.std.proofs.Common.{◌≡◌, ◌++◌, length, take}
use Rattle.std.specs.List.{flat_map}
use Rattle.fixed_width.specs.Fields.{bytes_of_u32}
use Rattle.index_file.specs.Format.{named_bytes}
use Rattle.index_file.proofs.put.put_lists.Given as goal

-- the count, and those so far are written
abbrev pub invariant-loop-list : goal.invariant-loop-list
invariant-loop-list l = l.out.items ≡ (l.fn.out.items ++ bytes_of_u32 (length l.lists)) ++ flat_map named_bytes (take l.list-index l.lists)
