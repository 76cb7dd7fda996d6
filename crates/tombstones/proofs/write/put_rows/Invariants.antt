use Rattle.std.proofs.Common.{◌≡◌, ◌++◌, map}
use Rattle.std.specs.List.{flat_map, AllByRecursion}
use Rattle.std.specs.Map.Iter.{deref_pair}
use Rattle.tombstones.specs.Ranges.{AreApart}
use Rattle.tombstones.specs.Format.{tomb_bytes}
use Rattle.tombstones.specs.Kept.{tombs_of}
use Rattle.tombstones.proofs.write.put_rows.Given as goal

-- the rows so far are written
abbrev pub invariant-loop-key : goal.invariant-loop-key
invariant-loop-key l =
    (l.out.items ≡ l.initial.out.items ++ flat_map tomb_bytes (tombs_of (map deref_pair l.yielded)))
    × AllByRecursion (λ row. AreApart row.1) (map deref_pair l.yielded)
