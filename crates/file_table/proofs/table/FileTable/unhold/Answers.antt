use Rattle.std.proofs.Common.{ℕ, ◌-◌, sym, subst, arith}
use Rattle.file_table.specs.contracts.table.FileTable.{the_view}
use Rattle.file_table.specs.Table.{Table, IsTable}
use Rattle.file_table.proofs.TableLemmas.{table_rows_once, held_table}
use Rattle.file_table.proofs.table.FileTable.unhold.Goals as goal

pub lower_row-requires : goal.lower_row-requires
lower_row-requires c = table_rows_once (the_view c.self.inside) c.self.invariant.sound

pub returns-clause-table : goal.returns-clause-table
returns-clause-table c =
    let old : Table = the_view c.self.inside in
    subst IsTable (λ i. record old { rows = (sym c.lower_row.ensures.items) i; condemned = (sym c.lower_condemned.ensures.items) i }) (held_table (λ (n : ℕ). n - 1) c.hold.inside.no old c.self.invariant.sound)

pub invariant_of-self : goal.invariant_of-self
invariant_of-self c =
    let old : Table = the_view c.self.inside in
    record {
      sound = subst IsTable (λ i. record old { rows = (sym c.lower_row.ensures.items) i; condemned = (sym c.lower_condemned.ensures.items) i }) (held_table (λ (n : ℕ). n - 1) c.hold.inside.no old c.self.invariant.sound);
      for_rows = omega (arith, c.self.invariant.for_rows, c.lower_row.ensures.len, c.lower_row.ensures.capacity, c.lower_row.new.rows.ok.0, c.self.inside.rows.ok.0);
      for_condemned = omega (arith, c.self.invariant.for_condemned, c.lower_row.ensures.len, c.lower_row.new.rows.ok.0, c.self.inside.rows.ok.0, c.lower_condemned.ensures.len, c.lower_condemned.ensures.capacity, c.lower_condemned.new.files.ok.0, c.self.inside.condemned.ok.0);
      for_gone = omega (arith, c.self.invariant.for_gone, c.lower_row.ensures.len, c.lower_row.new.rows.ok.0, c.self.inside.rows.ok.0, c.lower_condemned.ensures.len, c.lower_condemned.new.files.ok.0, c.self.inside.condemned.ok.0);
    }
