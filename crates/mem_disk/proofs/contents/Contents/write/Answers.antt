use Rattle.std.proofs.Common.{◌≡◌, ◌++◌, [], ◌∷◌, ℕ, List, Bool, false, rules, arith, refl, sym, subst, ◌∙◌, ap, Option, Some}
use Rattle.std.specs.Option.{option_copied_mut}
use Rattle.std.specs.BTreeMap as tree
use Rattle.std.specs.BTreeSet.{btree_set_len}
use Rattle.std.specs.Ordering.{nat_cmp}
use Rattle.std.specs.Prelude.{reverse, IsSome}
use Rattle.mem_disk.specs.History.{adopted_after, bytes_of}
use Rattle.mem_disk.specs.declared.change.Change.{Change}
use Rattle.mem_disk.specs.declared.change.Change.TheVariants.{Wrote}
use Rattle.mem_disk.proofs.Changes.{wrote_agrees, wrote_below, exactly_wrote}
use Rattle.mem_disk.proofs.Kept.{adopted_kept, overwrote, rewrote_agrees, still_was, still_settled, written_was, settled_now, passes_by, lacks, lacked}
use Rattle.mem_disk.proofs.Results.{one_more}
use Rattle.mem_disk.proofs.contents.Contents.write.Goals as goal

pub invariant_of-self-in-Break-branch-4 : goal.invariant_of-self-in-Break-branch-4
invariant_of-self-in-Break-branch-4 c =
    let m = c.args.self.now in
    let old = c.unwrap-file.result.now in
    let found : tree.get nat_cmp m.files c.args.no ≡ Some old = sym c.get_mut.ensures.value ∙ ap option_copied_mut c.unwrap-file.ensures in
    let was = sym (m.agrees c.args.no) ∙ ap bytes_of found in
    let present = subst (λ o. IsSome o) (sym found) refl in
    let holds = c.get_mut.follows.holds c.overwrite.new.file in
    let file = c.overwrite.new.file in
    let same = c.make_room.ensures.items in record {
      agrees = rewrote_agrees m.files (c.get_mut.follows.lender file) m.changes.items c.make_room.new.changes.items c.args.no file old.items same m.agrees (holds.3 present) was c.in_err-overwrite.ensures.err;
      below = λ n there. m.below n (still_was m.files m.files m.changes.items c.make_room.new.changes.items c.args.no file old.items same n there);
      clean = λ n there apart. still_settled m.files m.files m.changes.items c.make_room.new.changes.items c.args.no file old.items same n
          (m.clean n (still_was m.files m.files m.changes.items c.make_room.new.changes.items c.args.no file old.items same n there) (lacked m.unsynced c.insert.new.self c.args.no c.in_ok-insert.ensures.updates n apart));
      marked = λ n apart. ap (λ (l : List Change). adopted_after (reverse l) n) same ∙ m.marked n apart;
      room = omega (arith, c.in_ok-make_room.ensures.ok, one_more c.in_ok-insert.field-0 (btree_set_len m.unsynced) (btree_set_len c.insert.new.self) c.in_ok-insert.ensures.len, holds.2);
    }

pub invariant_of-self-2 : goal.invariant_of-self-2
invariant_of-self-2 c =
    let m = c.args.self.now in
    let old = c.unwrap-file.result.now in
    let found : tree.get nat_cmp m.files c.args.no ≡ Some old = sym c.get_mut.ensures.value ∙ ap option_copied_mut c.unwrap-file.ensures in
    let was = sym (m.agrees c.args.no) ∙ ap bytes_of found in
    let present = subst (λ o. IsSome o) (sym found) refl in
    let there_was = subst (λ (o : Option (List ℕ)). IsSome o) (sym was) refl in
    let holds = c.get_mut.follows.holds c.overwrite.new.file in
    let file = c.overwrite.new.file in
    let change : Change = Wrote c.args.no c.args.at c.in_ok-copy.copy in
    let is : c.note.new.changes.items ≡ m.changes.items ++ change ∷ [] = c.note.ensures.items ∙ ap (λ (l : List Change). l ++ change ∷ []) c.make_room.ensures.items in
    let copied : c.in_ok-copy.copy.items ≡ c.args.bytes.now = search rules in record {
      agrees = wrote_agrees m.files (c.get_mut.follows.lender file) m.changes.items c.note.new.changes.items c.args.no m.agrees file c.in_ok-copy.copy c.args.bytes.now copied (holds.3 present) c.args.at old.items was is c.in_ok-overwrite.ensures.ok;
      below = wrote_below m.files (c.get_mut.follows.lender file) m.changes.items c.note.new.changes.items c.args.no m.agrees file c.in_ok-copy.copy c.args.bytes.now copied (holds.3 present) c.args.at old.items was is m.next m.below;
      clean = λ n there apart.
          let before = written_was m.changes.items c.note.new.changes.items c.args.no c.args.at c.in_ok-copy.copy there_was is n there in
          settled_now m.changes.items c.note.new.changes.items change is n
          (passes_by c.args.no n false (reverse m.changes.items) (lacks m.unsynced c.insert.new.self c.args.no c.in_ok-insert.ensures.updates n apart)
          (m.clean n before (lacked m.unsynced c.insert.new.self c.args.no c.in_ok-insert.ensures.updates n apart)));
      marked = λ n apart. ap (λ (adopted : ℕ → Bool). adopted n) (adopted_kept m.changes.items c.note.new.changes.items change is refl) ∙ m.marked n apart;
      room = omega (arith, c.note.ensures.len, c.note.ensures.room, c.in_ok-make_room.ensures.ok, one_more c.in_ok-insert.field-0 (btree_set_len m.unsynced) (btree_set_len c.insert.new.self) c.in_ok-insert.ensures.len, holds.2);
    }

pub returns-clause-written : goal.returns-clause-written
returns-clause-written c =
    let m = c.args.self.now in
    let old = c.unwrap-file.result.now in
    let found : tree.get nat_cmp m.files c.args.no ≡ Some old = sym c.get_mut.ensures.value ∙ ap option_copied_mut c.unwrap-file.ensures in
    let was = sym (m.agrees c.args.no) ∙ ap bytes_of found in
    let same : c.in_ok-copy.copy.items ≡ c.args.bytes.now = search rules in
    overwrote m.changes.items c.note.new.changes.items c.args.no c.in_ok-copy.copy c.args.bytes.now same c.args.at old.items was
    (c.note.ensures.items ∙ ap (λ (l : List Change). l ++ Wrote c.args.no c.args.at c.in_ok-copy.copy ∷ []) c.make_room.ensures.items)

pub returns-clause-crash : goal.returns-clause-crash
returns-clause-crash c =
    let m = c.args.self.now in
    let same : c.in_ok-copy.copy.items ≡ c.args.bytes.now = search rules in
    exactly_wrote m.changes.items c.note.new.changes.items c.args.no c.args.at c.in_ok-copy.copy c.args.bytes.now same
    (c.note.ensures.items ∙ ap (λ (l : List Change). l ++ Wrote c.args.no c.args.at c.in_ok-copy.copy ∷ []) c.make_room.ensures.items)

pub returns-clause-adopted : goal.returns-clause-adopted
returns-clause-adopted c =
    let m = c.args.self.now in
    let change : Change = Wrote c.args.no c.args.at c.in_ok-copy.copy in
    adopted_kept m.changes.items c.note.new.changes.items change (c.note.ensures.items ∙ ap (λ (l : List Change). l ++ change ∷ []) c.make_room.ensures.items) refl
