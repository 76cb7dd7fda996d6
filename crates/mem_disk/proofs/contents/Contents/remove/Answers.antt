use Rattle.std.proofs.Common.{◌≡◌, false, refl, sym, ◌∙◌, ap, arith, None}
use Rattle.std.specs.BTreeMap as tree
use Rattle.std.specs.Ordering.{nat_cmp}
use Rattle.std.specs.Prelude.{reverse}
use Rattle.std.specs.BTreeMap.{btree_map_len}
use Rattle.mem_disk.specs.declared.change.Change.TheVariants.{Removed}
use Rattle.mem_disk.proofs.Changes.{exactly_removed, removed_agrees, removed_below}
use Rattle.mem_disk.specs.History.{adopted_after, bytes_of}
use Rattle.mem_disk.proofs.Images.{exactly_gone}
use Rattle.mem_disk.proofs.Kept.{adopted_set, never_in, none_adopted, not_adopted, removed_was, settled_now}
use Rattle.mem_disk.proofs.Results.{none_when, some_if}
use Rattle.mem_disk.proofs.contents.Contents.remove.Goals as goal

pub returns-then-is_none-clause-crash : goal.returns-then-is_none-clause-crash
returns-then-is_none-clause-crash c =
    let m = c.args.self.now in
    let gone : tree.get nat_cmp m.files c.args.no ≡ None = sym c.remove.ensures.value ∙ none_when c.remove.result c.if-is_none.ensures in
    exactly_gone m.changes.items c.args.no (not_adopted (reverse m.changes.items) c.args.no (sym (m.agrees c.args.no) ∙ ap bytes_of gone))

pub invariant_of-self-2 : goal.invariant_of-self-2
invariant_of-self-2 c =
    let m = c.args.self.now in
    let is = c.note.ensures.items in
    record {
      agrees = removed_agrees m.files c.remove.new.self m.changes.items c.note.new.changes.items c.args.no m.agrees c.remove.ensures.updates is;
      below = removed_below m.files c.remove.new.self m.changes.items c.note.new.changes.items c.args.no m.agrees c.remove.ensures.updates is m.next m.below;
      clean = λ n there apart. settled_now m.changes.items c.note.new.changes.items (Removed c.args.no) is n (m.clean n (removed_was m.changes.items c.note.new.changes.items c.args.no is n there) apart);
      marked = λ n apart. none_adopted c.args.no false (adopted_after (reverse m.changes.items)) (adopted_after (reverse c.note.new.changes.items)) n
          (adopted_set m.changes.items c.note.new.changes.items (Removed c.args.no) is c.args.no false refl) (λ same. refl) (m.marked n apart);
      room = omega (arith, c.note.ensures.len, c.note.ensures.room, some_if c.remove.result c.is_none.result (btree_map_len m.files) (btree_map_len c.remove.new.self) c.is_none.ensures c.if-is_none.false c.remove.ensures.len);
    }

pub returns-clause-crash : goal.returns-clause-crash
returns-clause-crash c = exactly_removed c.args.self.now.changes.items c.note.new.changes.items c.args.no c.note.ensures.items

pub returns-then-is_none-clause-adopted : goal.returns-then-is_none-clause-adopted
returns-then-is_none-clause-adopted c =
    let m = c.args.self.now in
    let gone : tree.get nat_cmp m.files c.args.no ≡ None = sym c.remove.ensures.value ∙ none_when c.remove.result c.if-is_none.ensures in
    never_in c.args.no false (adopted_after (reverse m.changes.items)) (not_adopted (reverse m.changes.items) c.args.no (sym (m.agrees c.args.no) ∙ ap bytes_of gone))

pub returns-clause-adopted : goal.returns-clause-adopted
returns-clause-adopted c =
    let m = c.args.self.now in
    adopted_set m.changes.items c.note.new.changes.items (Removed c.args.no) c.note.ensures.items c.args.no false refl
