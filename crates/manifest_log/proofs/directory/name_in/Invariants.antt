use Rattle.std.proofs.Common.{◌≡◌, ◌==◌, ◌++◌, map, take, drop, Some, cond}
use Rattle.file_table.specs.declared.row.FileRow.{FileRow}
use Rattle.manifest_log.proofs.directory.name_in.Given as goal

abbrev pub invariant-loop-row : goal.invariant-loop-row
invariant-loop-row l =
    l.row-items ≡ map (λ (row : FileRow). cond (row.no == l.no) (record row { tomb = Some l.tomb }) row) (take l.row-index l.initial.row-items) ++ drop l.row-index l.initial.row-items
