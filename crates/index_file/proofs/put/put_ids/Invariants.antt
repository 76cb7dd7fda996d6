use Rattle.std.proofs.Common.{◌≡◌, ◌++◌, length, take}
use Rattle.std.specs.List.{flat_map}
use Rattle.fixed_width.specs.Fields.{bytes_of_u32}
use Rattle.index_file.proofs.put.put_ids.Given as goal

-- the count, and those so far are written
abbrev pub invariant-loop-id : goal.invariant-loop-id
invariant-loop-id l = l.out.items ≡ (l.fn.out.items ++ bytes_of_u32 (length l.ids)) ++ flat_map bytes_of_u32 (take l.id-index l.ids)
