use Rattle.std.proofs.Common.{sym, ap, subst, arith, refl}
use Rattle.file_table.specs.contracts.table.FileTable.{the_view}
use Rattle.file_table.specs.Table.{Table}
use Rattle.file_table.specs.Table.{AreNew}
use Rattle.file_table.specs.Files.{files_of}
use Rattle.file_table.specs.Calls.{IsNewGeneration}
use Rattle.file_table.proofs.TableLemmas.{rising}
use Rattle.file_table.proofs.KeptLemmas.{placed_table}
use Rattle.file_table.proofs.table.FileTable.place.Goals as goal

pub put_row-requires-clause-ordered : goal.put_row-requires-clause-ordered
put_row-requires-clause-ordered c = rising (λ r. r.generation) c.self.inside.rows.items c.self.invariant.sound.ascending

pub returns-clause-table : goal.returns-clause-table
returns-clause-table c =
    placed_table (the_view c.self.inside) _ c.args.row c.put_row.ensures.put.0 refl c.put_row.ensures.put.1 c.put_row.ensures.ordered c.self.invariant.sound
    (subst (AreNew (files_of c.args.row)) (sym c.self.view_is) c.requires.enters.files)
    (subst (IsNewGeneration c.args.row.generation) (sym c.self.view_is) c.requires.generation)

pub invariant_of-self : goal.invariant_of-self
invariant_of-self c =
    let room = ap (λ (t : Table). t.row_room) c.self.view_is in
    let longer = c.put_row.ensures.len in
    record {
      sound = placed_table (the_view c.self.inside) _ c.args.row c.put_row.ensures.put.0 refl c.put_row.ensures.put.1 c.put_row.ensures.ordered c.self.invariant.sound
          (subst (AreNew (files_of c.args.row)) (sym c.self.view_is) c.requires.enters.files)
          (subst (IsNewGeneration c.args.row.generation) (sym c.self.view_is) c.requires.generation);
      for_rows = omega (arith, c.self.invariant.for_rows, room, c.requires.enters.room, longer, c.put_row.new.rows.ok.0, c.self.inside.rows.ok.0, c.put_row.ensures.capacity);
      for_condemned = omega (arith, c.self.invariant.for_condemned, room, c.requires.enters.room, longer, c.put_row.new.rows.ok.0, c.self.inside.rows.ok.0);
      for_gone = omega (arith, c.self.invariant.for_gone, room, c.requires.enters.room, longer, c.put_row.new.rows.ok.0, c.self.inside.rows.ok.0);
    }
