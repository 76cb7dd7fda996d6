use Rattle.std.proofs.Common.{sym, subst, arith, refl, Contains}
use Rattle.file_table.specs.contracts.table.FileTable.{the_view}
use Rattle.file_table.specs.Table.{Table, free_files}
use Rattle.file_table.proofs.KeptLemmas.{forgotten_table}
use Rattle.file_table.proofs.table.FileTable.forget.Goals as goal

pub take_out-requires-clause-free : goal.take_out-requires-clause-free
take_out-requires-clause-free c = subst (λ (t : Table). Contains (free_files t) c.args.no) (sym c.self.view_is) c.requires

pub returns-clause-table : goal.returns-clause-table
returns-clause-table c =
    let removed = c.take_out.ensures.removed in
    forgotten_table removed.0 (the_view c.self.inside) _ removed.1 refl removed.2 c.self.invariant.sound

pub invariant_of-self : goal.invariant_of-self
invariant_of-self c =
    let removed = c.take_out.ensures.removed in
    record {
      sound = forgotten_table removed.0 (the_view c.self.inside) _ removed.1 refl removed.2 c.self.invariant.sound;
      for_rows = c.self.invariant.for_rows;
      for_condemned = omega (arith, c.self.invariant.for_condemned, c.take_out.ensures.len, c.take_out.ensures.capacity, c.take_out.new.files.ok.0, c.self.inside.condemned.ok.0);
      for_gone = omega (arith, c.self.invariant.for_gone, c.take_out.ensures.len, c.take_out.new.files.ok.0, c.self.inside.condemned.ok.0, c.push_within.ensures.len, c.push_within.ensures.capacity, c.push_within.new.items.ok.0, c.self.inside.gone.ok.0);
    }
