-- those so far fit
use Rattle.std.proofs.Common.{take}
use Rattle.std.specs.List.{AllByRecursion}
use Rattle.shard_opening.specs.Columns.{IsFit}
use Rattle.shard_opening.proofs.taking.columns_fit.Given as goal

abbrev pub invariant-loop-column : goal.invariant-loop-column
invariant-loop-column l = AllByRecursion (IsFit l.series.keys) (take l.column-index l.columns)
