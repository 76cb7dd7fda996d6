use Rattle.std.proofs.Common.{sym, subst, arith}
use Rattle.file_table.specs.contracts.table.FileTable.{the_view}
use Rattle.file_table.specs.Table.{Table, IsTable}
use Rattle.file_table.specs.Calls.{with_tomb}
use Rattle.file_table.proofs.TableLemmas.{table_rows_once}
use Rattle.file_table.proofs.table.FileTable.set_tomb.Goals as goal

pub name_tomb-requires : goal.name_tomb-requires
name_tomb-requires c = table_rows_once (the_view c.self.inside) c.self.invariant.sound

pub invariant_of-self : goal.invariant_of-self
invariant_of-self c =
    let old : Table = the_view c.self.inside in
    record {
      sound = subst IsTable (λ i. record old { rows = (sym c.name_tomb.ensures.items) i }) (subst (λ (t : Table). IsTable (with_tomb c.args.no c.args.tomb t)) (sym c.self.view_is) c.requires.new);
      for_rows = omega (arith, c.self.invariant.for_rows, c.name_tomb.ensures.len, c.name_tomb.ensures.capacity, c.name_tomb.new.rows.ok.0, c.self.inside.rows.ok.0);
      for_condemned = omega (arith, c.self.invariant.for_condemned, c.name_tomb.ensures.len, c.name_tomb.new.rows.ok.0, c.self.inside.rows.ok.0);
      for_gone = omega (arith, c.self.invariant.for_gone, c.name_tomb.ensures.len, c.name_tomb.new.rows.ok.0, c.self.inside.rows.ok.0);
    }
