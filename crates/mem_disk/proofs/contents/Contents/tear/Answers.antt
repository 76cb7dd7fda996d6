use Rattle.std.proofs.Common.{◌≡◌, ◌++◌, [], ◌∷◌, ℕ, List, Bool, false, arith, refl, ◌∙◌, ap}
use Rattle.std.specs.BTreeSet.{btree_set_len}
use Rattle.std.specs.Prelude.{reverse}
use Rattle.mem_disk.specs.declared.change.Change.{Change}
use Rattle.mem_disk.specs.declared.change.Change.TheVariants.{Tore}
use Rattle.mem_disk.proofs.Changes.{exactly_tore}
use Rattle.mem_disk.proofs.Kept.{adopted_kept, reads_kept, agrees_kept, was_there, settled_now, passes_by, lacks, lacked}
use Rattle.mem_disk.proofs.Results.{one_more}
use Rattle.mem_disk.proofs.contents.Contents.tear.Goals as goal

pub invariant_of-self-2 : goal.invariant_of-self-2
invariant_of-self-2 c =
    let m = c.args.self.now in
    let change : Change = Tore c.args.no c.args.at c.args.len in
    let is : c.note.new.changes.items ≡ m.changes.items ++ change ∷ [] = c.note.ensures.items ∙ ap (λ (l : List Change). l ++ change ∷ []) c.make_room.ensures.items in record {
      agrees = agrees_kept m.changes.items c.note.new.changes.items change is m.files refl m.agrees;
      below = λ n there. m.below n (was_there m.changes.items c.note.new.changes.items change is refl n there);
      clean = λ n there apart.
          let was = was_there m.changes.items c.note.new.changes.items change is refl n there in
          settled_now m.changes.items c.note.new.changes.items change is n
          (passes_by c.args.no n false (reverse m.changes.items) (lacks m.unsynced c.insert.new.self c.args.no c.in_ok-insert.ensures.updates n apart)
          (m.clean n was (lacked m.unsynced c.insert.new.self c.args.no c.in_ok-insert.ensures.updates n apart)));
      marked = λ n apart. ap (λ (adopted : ℕ → Bool). adopted n) (adopted_kept m.changes.items c.note.new.changes.items change is refl) ∙ m.marked n apart;
      room = omega (arith, c.note.ensures.len, c.note.ensures.room, c.in_ok-make_room.ensures.ok, one_more c.in_ok-insert.field-0 (btree_set_len m.unsynced) (btree_set_len c.insert.new.self) c.in_ok-insert.ensures.len);
    }

pub returns-clause-reads : goal.returns-clause-reads
returns-clause-reads c =
    let m = c.args.self.now in
    let change : Change = Tore c.args.no c.args.at c.args.len in
    reads_kept m.changes.items c.note.new.changes.items change (c.note.ensures.items ∙ ap (λ (l : List Change). l ++ change ∷ []) c.make_room.ensures.items) refl

pub returns-clause-crash : goal.returns-clause-crash
returns-clause-crash c =
    let m = c.args.self.now in
    let change : Change = Tore c.args.no c.args.at c.args.len in
    exactly_tore m.changes.items c.note.new.changes.items c.args.no c.args.at c.args.len (c.note.ensures.items ∙ ap (λ (l : List Change). l ++ change ∷ []) c.make_room.ensures.items)

pub returns-clause-adopted : goal.returns-clause-adopted
returns-clause-adopted c =
    let m = c.args.self.now in
    let change : Change = Tore c.args.no c.args.at c.args.len in
    adopted_kept m.changes.items c.note.new.changes.items change (c.note.ensures.items ∙ ap (λ (l : List Change). l ++ change ∷ []) c.make_room.ensures.items) refl
