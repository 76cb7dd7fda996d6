use Rattle.tsm_format.proofs.RowLemmas.{row_fits}
use Rattle.tsm_format.proofs.write.write_index.Goals as goal

pub put_row-requires-clause-key : goal.put_row-requires-clause-key
put_row-requires-clause-key c = (row_fits c.args.rows.now c.loop-row.row-index c.row-item.result c.requires.1 c.loop-row-test.true c.row-item.is).0

pub put_row-requires-clause-count : goal.put_row-requires-clause-count
put_row-requires-clause-count c = (row_fits c.args.rows.now c.loop-row.row-index c.row-item.result c.requires.1 c.loop-row-test.true c.row-item.is).1
