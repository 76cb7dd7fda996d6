use Rattle.std.proofs.Common.{sym, subst, arith}
use Rattle.file_table.specs.contracts.table.FileTable.{the_view}
use Rattle.file_table.specs.Table.{Table, IsTable}
use Rattle.file_table.proofs.TableLemmas.{busy_table}
use Rattle.file_table.proofs.table.FileTable.set_busy.Goals as goal

pub returns-clause-table : goal.returns-clause-table
returns-clause-table c =
    let old : Table = the_view c.self.inside in
    subst IsTable (λ i. record old { rows = (sym c.mark.ensures.items) i }) (busy_table c.args.first c.args.count c.args.busy old c.self.invariant.sound)

pub invariant_of-self : goal.invariant_of-self
invariant_of-self c =
    let old : Table = the_view c.self.inside in
    record {
      sound = subst IsTable (λ i. record old { rows = (sym c.mark.ensures.items) i }) (busy_table c.args.first c.args.count c.args.busy old c.self.invariant.sound);
      for_rows = omega (arith, c.self.invariant.for_rows, c.mark.ensures.len, c.mark.ensures.capacity, c.mark.new.rows.ok.0, c.self.inside.rows.ok.0);
      for_condemned = omega (arith, c.self.invariant.for_condemned, c.mark.ensures.len, c.mark.new.rows.ok.0, c.self.inside.rows.ok.0);
      for_gone = omega (arith, c.self.invariant.for_gone, c.mark.ensures.len, c.mark.new.rows.ok.0, c.self.inside.rows.ok.0);
    }
