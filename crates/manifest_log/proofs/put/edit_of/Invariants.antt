use Rattle.std.proofs.Common.{◌≡◌, ◌++◌, take, length}
use Rattle.std.specs.List.{flat_map}
use Rattle.fixed_width.specs.Fields.{bytes_of_u32}
use Rattle.manifest_log.specs.Format.{change_bytes}
use Rattle.manifest_log.proofs.put.edit_of.Given as goal

abbrev pub invariant-loop-change : goal.invariant-loop-change
invariant-loop-change l = l.out.items ≡ bytes_of_u32 (length l.changes) ++ flat_map change_bytes (take l.change-index l.changes)
