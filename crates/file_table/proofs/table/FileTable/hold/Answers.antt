use Rattle.std.proofs.Common.{ℕ, ◌+◌, sym, subst, arith}
use Rattle.file_table.specs.contracts.table.FileTable.{the_view}
use Rattle.file_table.specs.Table.{Table, IsTable, CanBeHeld}
use Rattle.file_table.proofs.TableLemmas.{table_rows_once, held_table}
use Rattle.file_table.proofs.FoundLemmas.{room_in_rows, room_in_condemned}
use Rattle.file_table.proofs.table.FileTable.hold.Goals as goal

pub raise_row-requires-clause-once : goal.raise_row-requires-clause-once
raise_row-requires-clause-once c = table_rows_once (the_view c.self.inside) c.self.invariant.sound

pub raise_row-requires-clause-room : goal.raise_row-requires-clause-room
raise_row-requires-clause-room c = room_in_rows c.args.no (the_view c.self.inside) c.self.invariant.sound (subst (CanBeHeld c.args.no) (sym c.self.view_is) c.requires)

pub raise_condemned-requires-clause-room : goal.raise_condemned-requires-clause-room
raise_condemned-requires-clause-room c = room_in_condemned c.args.no (the_view c.self.inside) c.self.invariant.sound (subst (CanBeHeld c.args.no) (sym c.self.view_is) c.requires)

pub returns-clause-table : goal.returns-clause-table
returns-clause-table c =
    let old : Table = the_view c.self.inside in
    subst IsTable (λ i. record old { rows = (sym c.raise_row.ensures.items) i; condemned = (sym c.raise_condemned.ensures.items) i }) (held_table (λ (n : ℕ). n + 1) c.args.no old c.self.invariant.sound)

pub invariant_of-self : goal.invariant_of-self
invariant_of-self c =
    let old : Table = the_view c.self.inside in
    record {
      sound = subst IsTable (λ i. record old { rows = (sym c.raise_row.ensures.items) i; condemned = (sym c.raise_condemned.ensures.items) i }) (held_table (λ (n : ℕ). n + 1) c.args.no old c.self.invariant.sound);
      for_rows = omega (arith, c.self.invariant.for_rows, c.raise_row.ensures.len, c.raise_row.ensures.capacity, c.raise_row.new.rows.ok.0, c.self.inside.rows.ok.0);
      for_condemned = omega (arith, c.self.invariant.for_condemned, c.raise_row.ensures.len, c.raise_row.new.rows.ok.0, c.self.inside.rows.ok.0, c.raise_condemned.ensures.len, c.raise_condemned.ensures.capacity, c.raise_condemned.new.files.ok.0, c.self.inside.condemned.ok.0);
      for_gone = omega (arith, c.self.invariant.for_gone, c.raise_row.ensures.len, c.raise_row.new.rows.ok.0, c.self.inside.rows.ok.0, c.raise_condemned.ensures.len, c.raise_condemned.new.files.ok.0, c.self.inside.condemned.ok.0);
    }
