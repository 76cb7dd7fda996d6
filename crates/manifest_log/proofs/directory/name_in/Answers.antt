use Rattle.std.proofs.Common.{◌==◌, cond, Some, refl}
use Rattle.file_table.specs.declared.row.FileRow.{FileRow}
use Rattle.manifest_log.proofs.ApplyLemmas.{changed_more, changed_all}
use Rattle.manifest_log.proofs.directory.name_in.Goals as goal

pub loop-row-init : goal.loop-row-init
loop-row-init c = refl

pub loop-row-preserved : goal.loop-row-preserved
loop-row-preserved c =
    changed_more (λ (row : FileRow). cond (row.no == c.args.no) (record row { tomb = Some c.args.tomb }) row) c.deref_mut-row-items.result.now c.loop-row.row-items c.loop-row.row-index _ _
    c.loop-row-test.true c.loop-row.auto.row-items c.loop-row.invariant c.name_row.ensures

pub returns : goal.returns
returns c =
    changed_all (λ (row : FileRow). cond (row.no == c.args.no) (record row { tomb = Some c.args.tomb }) row) c.deref_mut-row-items.result.now c.loop-row.row-items c.args.rows.now.items c.loop-row.row-index _
    c.deref_mut-row-items.ensures.value c.loop-row-test.false c.loop-row.auto.row-items c.args.rows.now.ok.0 c.loop-row.invariant
