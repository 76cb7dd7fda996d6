use Rattle.std.proofs.Common.{arith}
use Rattle.file_tests.proofs.TableLemmas.{may_enter, new_generation, one_more}
use Rattle.file_tests.proofs.plans.table_of.Goals as goal

pub place-requires-clause-enters : goal.place-requires-clause-enters
place-requires-clause-enters c =
    may_enter _ _ _ _ c.loop-row.invariant.rows (omega (arith, c.loop-row-test.true, c.loop-row.invariant.counted)) c.row_of.ensures.file c.row_of.ensures.tomb c.row_of.ensures.holds

pub place-requires-clause-generation : goal.place-requires-clause-generation
place-requires-clause-generation c = new_generation _ _ _ _ c.loop-row.invariant.rows c.row_of.ensures.generation

pub loop-row-preserved : goal.loop-row-preserved
loop-row-preserved c = record {
  counted = omega (arith, c.loop-row.invariant.counted);
  rows = one_more _ _ _ _ _ c.loop-row.invariant.rows c.place.ensures.placed c.place.ensures.table c.row_of.ensures.file c.row_of.ensures.generation c.row_of.ensures.tomb;
}
