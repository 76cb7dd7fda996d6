use Rattle.std.proofs.Common.{◌≡◌, ◌++◌, length, take}
use Rattle.std.specs.List.{flat_map}
use Rattle.fixed_width.specs.Fields.{bytes_of_u32}
use Rattle.index_file.specs.Format.{measurement_bytes}
use Rattle.index_file.proofs.put.put_measurements.Given as goal

-- the count, and those so far are written
abbrev pub invariant-loop-measurement : goal.invariant-loop-measurement
invariant-loop-measurement l = l.out.items ≡ (l.fn.out.items ++ bytes_of_u32 (length l.measurements)) ++ flat_map measurement_bytes (take l.measurement-index l.measurements)
