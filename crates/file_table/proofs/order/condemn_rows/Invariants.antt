use Rattle.std.proofs.Common.{◌+◌, ◌*◌, ◌≤◌, ◌++◌, take, vec_len, vec_capacity}
use Rattle.std.specs.List.{flat_map}
use Rattle.std.specs.List.Sorted.{IsPermutation, IsNonDecreasingBy}
use Rattle.file_table.specs.Files.{condemned_of}
use Rattle.file_table.proofs.order.condemn_rows.Given as goal

abbrev pub invariant-loop-row : goal.invariant-loop-row
invariant-loop-row l =
    IsNonDecreasingBy (λ f. f.no) l.files.items
    × IsPermutation (flat_map condemned_of (take l.row-index l.rows) ++ l.initial.files.items) l.files.items
    × (vec_len l.files ≤ vec_len l.initial.files + 2 * l.row-index)
    × (vec_capacity l.initial.files ≤ vec_capacity l.files)
