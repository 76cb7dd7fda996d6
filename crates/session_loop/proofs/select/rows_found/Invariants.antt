-- The rows so far, and those that are to come.
use Rattle.std.proofs.Common.{◌≡◌, ◌++◌, drop, map, All}
use Rattle.session_loop.specs.Merged.{row_found, IsReadableFound}
use Rattle.session_loop.proofs.select.rows_found.Given as goal

abbrev pub invariant-loop-row : goal.invariant-loop-row
invariant-loop-row l = record {
  rows : l.rows.items ++ map row_found (drop l.row-index l.found) ≡ map row_found l.found;
  readable : All IsReadableFound l.rows.items;
}
