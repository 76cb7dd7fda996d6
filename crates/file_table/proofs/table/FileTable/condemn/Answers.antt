use Rattle.std.proofs.Common.{◌∷◌, [], sym, ap, subst, arith, refl}
use Rattle.file_table.specs.contracts.table.FileTable.{the_view}
use Rattle.file_table.specs.Table.{Table}
use Rattle.file_table.specs.Table.{AreNew}
use Rattle.file_table.proofs.TableLemmas.{rising}
use Rattle.file_table.proofs.KeptLemmas.{condemned_table}
use Rattle.file_table.proofs.table.FileTable.condemn.Goals as goal

pub put_condemned-requires-clause-ordered : goal.put_condemned-requires-clause-ordered
put_condemned-requires-clause-ordered c = rising (λ f. f.no) c.self.inside.condemned.items c.self.invariant.sound.condemned

pub returns-clause-table : goal.returns-clause-table
returns-clause-table c =
    condemned_table c.args.no (the_view c.self.inside) _ refl c.put_condemned.ensures.added c.put_condemned.ensures.ordered c.self.invariant.sound
    (subst (AreNew (c.args.no ∷ [])) (sym c.self.view_is) c.requires.new)

pub invariant_of-self : goal.invariant_of-self
invariant_of-self c =
    let room = ap (λ (t : Table). t.file_room) c.self.view_is in
    let longer = c.put_condemned.ensures.len in
    record {
      sound = condemned_table c.args.no (the_view c.self.inside) _ refl c.put_condemned.ensures.added c.put_condemned.ensures.ordered c.self.invariant.sound
          (subst (AreNew (c.args.no ∷ [])) (sym c.self.view_is) c.requires.new);
      for_rows = c.self.invariant.for_rows;
      for_condemned = omega (arith, c.self.invariant.for_condemned, room, c.requires.room, longer, c.put_condemned.new.files.ok.0, c.self.inside.condemned.ok.0, c.put_condemned.ensures.capacity);
      for_gone = omega (arith, c.self.invariant.for_gone, room, c.requires.room, longer, c.put_condemned.new.files.ok.0, c.self.inside.condemned.ok.0);
    }
