use Rattle.std.proofs.Common.{◌≡◌, ◌++◌, take, length}
use Rattle.std.specs.List.{flat_map}
use Rattle.fixed_width.specs.Fields.{bytes_of_u32}
use Rattle.series_store.specs.Format.{series_bytes}
use Rattle.series_store.proofs.put.record_of.Given as goal

abbrev pub invariant-loop-key : goal.invariant-loop-key
invariant-loop-key l = l.out.items ≡ bytes_of_u32 (length l.series) ++ flat_map series_bytes (take l.key-index l.series)
