use Rattle.std.proofs.Common.{arith}
use Rattle.file_table.specs.Files.{condemned_of}
use Rattle.file_table.proofs.OrderLemmas.{permuted_pieces}
use Rattle.file_table.proofs.order.condemn_rows.Goals as goal

pub loop-row-preserved : goal.loop-row-preserved
loop-row-preserved c = (
  c.condemn_row.ensures.ordered,
  permuted_pieces condemned_of c.args.rows.now c.loop-row.row-index _ _ _ _ c.loop-row-test.true c.loop-row.invariant.1 c.condemn_row.ensures.added,
  omega (arith, c.loop-row.invariant.2, c.condemn_row.ensures.len),
  omega (arith, c.loop-row.invariant.3, c.condemn_row.ensures.capacity),
)
