use Rattle.std.proofs.Common.{◌≡◌, ◌++◌, take}
use Rattle.std.specs.List.{flat_map, AllByRecursion}
use Rattle.wal_store.proofs.PutLemmas.{IsPartAt, bytes_at}
use Rattle.wal_store.proofs.condition.put_condition.Given as goal

-- the parts so far are put
abbrev pub invariant-loop-placed : goal.invariant-loop-placed
invariant-loop-placed l = record {
  bytes : l.out.items ≡ l.initial.out.items ++ flat_map bytes_at (take l.placed-index l.placed-items);
  parts : AllByRecursion IsPartAt (take l.placed-index l.placed-items);
}
