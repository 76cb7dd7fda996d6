use Rattle.std.proofs.Common.{◌≡◌, ◌<◌, ◌++◌, [], ◌∷◌, List, true, rules, arith, inl, inr, refl, ◌∙◌, ap}
use Rattle.std.proofs.lemmas.Bool.{cases_eq}
use Rattle.std.specs.BTreeMap.{btree_map_len}
use Rattle.std.specs.BTreeSet.{btree_set_len}
use Rattle.std.specs.Prelude.{reverse}
use Rattle.mem_disk.specs.declared.change.Change.{Change}
use Rattle.mem_disk.specs.declared.change.Change.TheVariants.{Added}
use Rattle.mem_disk.proofs.Changes.{added_agrees, added_below, exactly_added}
use Rattle.mem_disk.specs.History.{adopted_after}
use Rattle.mem_disk.proofs.Kept.{adopted_set, lacked, lacks, none_adopted, placed, was_other, settled_now, passes_by, stops_at}
use Rattle.mem_disk.proofs.Results.{when_ok, grows_by_one, one_more, flips}
use Rattle.mem_disk.proofs.contents.Contents.place.Goals as goal

pub invariant_of-self-2 : goal.invariant_of-self-2
invariant_of-self-2 c =
    let m = c.args.self.now in
    let change : Change = Added c.args.no c.in_ok-copy.copy in
    let is : c.note.new.changes.items ≡ m.changes.items ++ change ∷ [] = c.note.ensures.items ∙ ap (λ (l : List Change). l ++ change ∷ []) c.make_room.ensures.items in
    let fine = flips c.is_err.ensures.value c.if-is_err.false in
    let copied : c.in_ok-copy.copy.items ≡ c.args.bytes.now = search rules in
    let kept : c.in_ok-file.file.items ≡ c.args.bytes.now = search rules in record {
      agrees = added_agrees m.files c.insert-2.new.self m.changes.items c.note.new.changes.items c.args.no m.agrees c.in_ok-file.file c.in_ok-copy.copy c.args.bytes.now copied (when_ok c.insert-2.result fine c.insert-2.ensures.updates) kept is;
      below = added_below m.files c.insert-2.new.self m.changes.items c.note.new.changes.items c.args.no m.agrees c.in_ok-copy.copy is (λ n there. let low : n < m.next = m.below n there in omega (arith, c.requires.above));
      clean = λ n there apart. settled_now m.changes.items c.note.new.changes.items change is n (elim (cases_eq n c.args.no) [
        | inl same ↦ stops_at c.args.no n (reverse m.changes.items) same
        | inr other ↦ passes_by c.args.no n true (reverse m.changes.items) other (m.clean n (was_other m.changes.items c.note.new.changes.items c.args.no c.in_ok-copy.copy is n other there) apart)
      ]);
      marked = λ n apart. none_adopted c.args.no true (adopted_after (reverse m.changes.items)) (adopted_after (reverse c.note.new.changes.items)) n (adopted_set m.changes.items c.note.new.changes.items change is c.args.no true refl)
          (λ same. absurd (lacks m.unmarked c.insert.new.self c.args.no c.in_ok-insert.ensures.updates n apart same)) (m.marked n (lacked m.unmarked c.insert.new.self c.args.no c.in_ok-insert.ensures.updates n apart));
      room = omega (
        arith,
        c.note.ensures.len,
        c.note.ensures.room,
        c.in_ok-make_room.ensures.ok,
        one_more c.in_ok-insert.field-0 (btree_set_len m.unmarked) (btree_set_len c.insert.new.self) c.in_ok-insert.ensures.len,
        grows_by_one c.insert-2.result (btree_map_len m.files) (btree_map_len c.insert-2.new.self) fine c.insert-2.ensures.len,
      );
    }

pub returns-clause-file : goal.returns-clause-file
returns-clause-file c =
    let m = c.args.self.now in
    let same : c.in_ok-copy.copy.items ≡ c.args.bytes.now = search rules in
    placed m.changes.items c.note.new.changes.items c.args.no c.in_ok-copy.copy c.args.bytes.now same
    (c.note.ensures.items ∙ ap (λ (l : List Change). l ++ Added c.args.no c.in_ok-copy.copy ∷ []) c.make_room.ensures.items)

pub returns-clause-crash : goal.returns-clause-crash
returns-clause-crash c =
    let m = c.args.self.now in
    let same : c.in_ok-copy.copy.items ≡ c.args.bytes.now = search rules in
    exactly_added m.changes.items c.note.new.changes.items c.args.no c.in_ok-copy.copy c.args.bytes.now same
    (c.note.ensures.items ∙ ap (λ (l : List Change). l ++ Added c.args.no c.in_ok-copy.copy ∷ []) c.make_room.ensures.items)

pub returns-clause-adopted : goal.returns-clause-adopted
returns-clause-adopted c =
    let m = c.args.self.now in
    let change : Change = Added c.args.no c.in_ok-copy.copy in
    adopted_set m.changes.items c.note.new.changes.items change (c.note.ensures.items ∙ ap (λ (l : List Change). l ++ change ∷ []) c.make_room.ensures.items) c.args.no true refl
