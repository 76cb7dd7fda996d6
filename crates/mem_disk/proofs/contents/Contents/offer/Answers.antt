use Rattle.std.proofs.Common.{◌≡◌, ◌<◌, ◌++◌, [], ◌∷◌, ℕ, List, Bool, false, rules, arith, refl, ◌∙◌, ap}
use Rattle.std.specs.Prelude.{reverse}
use Rattle.mem_disk.specs.declared.change.Change.{Change}
use Rattle.mem_disk.specs.declared.change.Change.TheVariants.{Offered}
use Rattle.mem_disk.proofs.Changes.{exactly_offered}
use Rattle.mem_disk.proofs.Kept.{adopted_kept, reads_kept, agrees_kept, was_there, settled_now, passes_by}
use Rattle.mem_disk.proofs.contents.Contents.offer.Goals as goal

pub invariant_of-self-2 : goal.invariant_of-self-2
invariant_of-self-2 c =
    let m = c.args.self.now in
    let change : Change = Offered m.next c.in_ok-copy.copy in
    let is : c.note.new.changes.items ≡ m.changes.items ++ change ∷ [] = c.note.ensures.items ∙ ap (λ (l : List Change). l ++ change ∷ []) c.make_room.ensures.items in record {
      agrees = agrees_kept m.changes.items c.note.new.changes.items change is m.files refl m.agrees;
      below = λ n there. let low : n < m.next = m.below n (was_there m.changes.items c.note.new.changes.items change is refl n there) in omega arith;
      clean = λ n there apart.
          let was = was_there m.changes.items c.note.new.changes.items change is refl n there in
          settled_now m.changes.items c.note.new.changes.items change is n (passes_by m.next n false (reverse m.changes.items) (λ same. absurd (omega (arith, m.below n was, same))) (m.clean n was apart));
      marked = λ n apart. ap (λ (adopted : ℕ → Bool). adopted n) (adopted_kept m.changes.items c.note.new.changes.items change is refl) ∙ m.marked n apart;
      room = omega (arith, c.note.ensures.len, c.note.ensures.room, c.in_ok-make_room.ensures.ok);
    }

pub returns-clause-reads : goal.returns-clause-reads
returns-clause-reads c =
    let m = c.args.self.now in
    let change : Change = Offered m.next c.in_ok-copy.copy in
    reads_kept m.changes.items c.note.new.changes.items change (c.note.ensures.items ∙ ap (λ (l : List Change). l ++ change ∷ []) c.make_room.ensures.items) refl

pub returns-clause-crash : goal.returns-clause-crash
returns-clause-crash c =
    let m = c.args.self.now in
    let same : c.in_ok-copy.copy.items ≡ c.args.bytes.now = search rules in
    exactly_offered m.changes.items c.note.new.changes.items m.next c.in_ok-copy.copy c.args.bytes.now same
    (c.note.ensures.items ∙ ap (λ (l : List Change). l ++ Offered m.next c.in_ok-copy.copy ∷ []) c.make_room.ensures.items)

pub returns-clause-adopted : goal.returns-clause-adopted
returns-clause-adopted c =
    let m = c.args.self.now in
    let change : Change = Offered m.next c.in_ok-copy.copy in
    adopted_kept m.changes.items c.note.new.changes.items change (c.note.ensures.items ∙ ap (λ (l : List Change). l ++ change ∷ []) c.make_room.ensures.items) refl
