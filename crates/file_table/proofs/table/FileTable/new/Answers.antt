use Rattle.std.proofs.Common.{length, sym, ap, subst, arith}
use Rattle.file_table.specs.Table.{IsTable}
use Rattle.file_table.proofs.TableLemmas.{empty_table}
use Rattle.file_table.proofs.table.FileTable.new.Goals as goal

pub invariant_of-result : goal.invariant_of-result
invariant_of-result c =
    let rows = c.new.ensures.items in
    let condemned = c.new-2.ensures.items in
    let gone = c.new-3.ensures.items in
    record {
      sound = subst IsTable (λ i. record { rows = (sym rows) i; condemned = (sym condemned) i; gone = (sym gone) i; row_room = 0; file_room = 0 }) empty_table;
      for_rows = omega (arith, ap length rows);
      for_condemned = omega (arith, ap length rows, ap length condemned);
      for_gone = omega (arith, ap length rows, ap length condemned, ap length gone);
    }
