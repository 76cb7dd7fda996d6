-- so much is read, and its entries are taken
use Rattle.std.proofs.Common.{ℕ, List}
use Rattle.shard_opening.specs.Filling.{Fills}
use Rattle.shard_opening.proofs.filling.fill.Given as goal

abbrev pub invariant-loop : goal.invariant-loop
invariant-loop l = (read : List (List ℕ)) × Fills l.series.keys l.fn.replay l.replay read l.fn.filling l.filling
