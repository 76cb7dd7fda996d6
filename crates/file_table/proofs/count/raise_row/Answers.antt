use Rattle.std.proofs.Common.{◌+◌}
use Rattle.file_table.specs.declared.row.FileRow.{FileRow}
use Rattle.file_table.proofs.CountLemmas.{changed_none, changed_at}
use Rattle.file_table.proofs.count.raise_row.Goals as goal

pub returns-in-Some-clause-items : goal.returns-in-Some-clause-items
returns-in-Some-clause-items c =
    changed_at (λ (row : FileRow). row.no) (λ (row : FileRow). record row { holds = row.holds + 1 }) c.args.no c.args.rows.now.items c.deref.result.now c.in-Some.k c.index_mut.result.now c.deref.ensures.value c.requires.once c.in-Some.ensures.within c.index_mut.ensures.value c.in-Some.ensures.found

pub returns-in_default-clause-items : goal.returns-in_default-clause-items
returns-in_default-clause-items c =
    changed_none (λ (row : FileRow). row.no) (λ (row : FileRow). record row { holds = row.holds + 1 }) c.args.no c.args.rows.now.items c.deref.result.now c.deref.ensures.value c.in_default.ensures.none
