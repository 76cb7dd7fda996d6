use Rattle.std.proofs.Common.{◌≡◌, ◌++◌, take}
use Rattle.std.specs.List.{flat_map}
use Rattle.tombstones.specs.Format.{tomb_bytes}
use Rattle.tombstones.specs.Kept.{tombs_with}
use Rattle.tombstones.proofs.write.put_row.Given as goal

-- the tombstones so far are written
abbrev pub invariant-loop-range : goal.invariant-loop-range
invariant-loop-range l = l.out.items ≡ l.initial.out.items ++ flat_map tomb_bytes (tombs_with l.key (take l.range-index l.ranges))
