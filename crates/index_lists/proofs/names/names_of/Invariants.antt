-- The names of the terms so far.
use Rattle.std.proofs.Common.{◌≡◌, length, take}
use Rattle.index_lists.specs.Names.{names_in}
use Rattle.index_lists.proofs.names.names_of.Given as goal

abbrev pub invariant-loop-place : goal.invariant-loop-place
invariant-loop-place l = record {
  names : l.names.items ≡ names_in l.heading (take l.place l.map.entries);
  end : l.place-end ≡ length l.map.entries;
}
