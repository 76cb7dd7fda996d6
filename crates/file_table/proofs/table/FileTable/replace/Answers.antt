use Rattle.std.proofs.Common.{◌≡◌, ◌+◌, ◌-◌, ◌≤◌, ◌++◌, length, List, take, drop, sym, ap, ◌∙◌, subst, arith, refl}
use Rattle.std.specs.Option.{ForSome}
use Rattle.std.specs.List.{flat_map}
use Rattle.std.specs.List.Sorted.{IsPermutation}
use Rattle.std.proofs.lemmas.List.{length-take-le, length-drop}
use Rattle.file_table.specs.declared.row.FileRow.{FileRow}
use Rattle.file_table.specs.contracts.table.FileTable.{the_view}
use Rattle.file_table.specs.Files.{condemned_of}
use Rattle.file_table.specs.Table.{Table}
use Rattle.file_table.specs.Calls.{MayReplace, Replaces}
use Rattle.file_table.proofs.TableLemmas.{rising}
use Rattle.file_table.proofs.KeptLemmas.{replaced_table, room_of}
use Rattle.file_table.proofs.table.FileTable.replace.Goals as goal

pub condemn_rows-requires-clause-ordered : goal.condemn_rows-requires-clause-ordered
condemn_rows-requires-clause-ordered c = rising (λ f. f.no) c.self.inside.condemned.items c.self.invariant.sound.condemned

pub give_way-requires-clause-room : goal.give_way-requires-clause-room
give_way-requires-clause-room c =
    let room = room_of c.args.first c.args.count (the_view c.self.inside) c.args.new (subst (λ (t : Table). ForSome c.args.new (MayReplace c.args.first c.args.count t)) (sym c.self.view_is) c.requires.new) in
    omega (arith, room, c.self.invariant.for_rows, c.self.inside.rows.ok.0)

pub overflow_sub-self : goal.overflow_sub-self
overflow_sub-self c =
    let room = room_of c.args.first c.args.count (the_view c.self.inside) c.args.new (subst (λ (t : Table). ForSome c.args.new (MayReplace c.args.first c.args.count t)) (sym c.self.view_is) c.requires.new) in
    omega (arith, room, c.count_of.ensures)

pub returns-clause-replaced : goal.returns-clause-replaced
returns-clause-replaced c =
    let old : Table = the_view c.self.inside in
    let room = room_of c.args.first c.args.count old c.args.new (subst (λ (t : Table). ForSome c.args.new (MayReplace c.args.first c.args.count t)) (sym c.self.view_is) c.requires.new) in
    let new : Table = record { rows = c.give_way.new.rows.items; condemned = c.condemn_rows.new.files.items; gone = old.gone; row_room = old.row_room - c.count_of.result; file_room = old.file_room } in
    subst (λ (t : Table). Replaces c.args.first c.args.count c.args.new t new) c.self.view_is (record {
      rows = c.give_way.ensures.items;
      condemned = subst (λ (l : List FileRow). IsPermutation (flat_map condemned_of l ++ old.condemned) c.condemn_rows.new.files.items)
          (c.part.ensures ∙ ap (λ (l : List FileRow). take c.args.count (drop c.args.first l)) c.deref.ensures.value) c.condemn_rows.ensures.added;
      room = omega (arith, room, c.count_of.ensures);
      same = refl;
    })

pub returns-clause-table : goal.returns-clause-table
returns-clause-table c =
    let old : Table = the_view c.self.inside in
    replaced_table c.args.first c.args.count old _ c.args.new c.give_way.ensures.items
    (subst (λ (l : List FileRow). IsPermutation (flat_map condemned_of l ++ old.condemned) c.condemn_rows.new.files.items)
    (c.part.ensures ∙ ap (λ (l : List FileRow). take c.args.count (drop c.args.first l)) c.deref.ensures.value) c.condemn_rows.ensures.added)
    c.condemn_rows.ensures.ordered c.self.invariant.sound
    (subst (λ (t : Table). ForSome c.args.new (MayReplace c.args.first c.args.count t)) (sym c.self.view_is) c.requires.new)

pub invariant_of-self : goal.invariant_of-self
invariant_of-self c =
    let old : Table = the_view c.self.inside in
    let may = subst (λ (t : Table). ForSome c.args.new (MayReplace c.args.first c.args.count t)) (sym c.self.view_is) c.requires.new in
    let room = room_of c.args.first c.args.count old c.args.new may in
    let within : c.args.first + c.args.count ≤ length c.self.inside.rows.items = subst (λ (t : Table). c.args.first + c.args.count ≤ length t.rows) (sym c.self.view_is) c.requires.within in
    let part : length c.part.result.now ≡ c.args.count =
    ap length (c.part.ensures ∙ ap (λ (l : List FileRow). take c.args.count (drop c.args.first l)) c.deref.ensures.value)
    ∙ length-take-le c.args.count (drop c.args.first c.self.inside.rows.items) (omega (arith, length-drop c.args.first c.self.inside.rows.items, within)) in
    record {
      sound = replaced_table c.args.first c.args.count old _ c.args.new c.give_way.ensures.items
          (subst (λ (l : List FileRow). IsPermutation (flat_map condemned_of l ++ old.condemned) c.condemn_rows.new.files.items)
          (c.part.ensures ∙ ap (λ (l : List FileRow). take c.args.count (drop c.args.first l)) c.deref.ensures.value) c.condemn_rows.ensures.added)
          c.condemn_rows.ensures.ordered c.self.invariant.sound may;
      for_rows = omega (arith, room, within, c.count_of.ensures, c.self.invariant.for_rows, c.give_way.ensures.len, c.give_way.ensures.capacity, c.give_way.new.rows.ok.0, c.self.inside.rows.ok.0);
      for_condemned = omega (arith, room, within, part, c.count_of.ensures, c.self.invariant.for_condemned, c.give_way.ensures.len, c.give_way.new.rows.ok.0, c.self.inside.rows.ok.0, c.condemn_rows.ensures.len, c.condemn_rows.ensures.capacity, c.condemn_rows.new.files.ok.0, c.self.inside.condemned.ok.0);
      for_gone = omega (arith, room, within, part, c.count_of.ensures, c.self.invariant.for_gone, c.give_way.ensures.len, c.give_way.new.rows.ok.0, c.self.inside.rows.ok.0, c.condemn_rows.ensures.len, c.condemn_rows.new.files.ok.0, c.self.inside.condemned.ok.0);
    }
