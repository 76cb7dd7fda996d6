use Rattle.std.proofs.Common.{◌≡◌, ◌+◌, take, length}
use Rattle.std.specs.List.{flat_map, AllByRecursion}
use Rattle.series_store.specs.Format.{IsKey, series_bytes}
use Rattle.series_store.proofs.put.size_of.Given as goal

abbrev pub invariant-loop-key : goal.invariant-loop-key
invariant-loop-key l = (l.size ≡ 4 + length (flat_map series_bytes (take l.key-index l.series))) × AllByRecursion IsKey (take l.key-index l.series)
