use Rattle.std.proofs.Common.{◌≡◌, ◌-◌, ◌<◌, ◌∷◌, ℕ, true, false, List, length, get_or, refl, sym, ap, ◌∙◌, subst, arith}
use Rattle.indexmap.specs.IndexMap.{keys, values}
use Rattle.index_lists.specs.Listing.{Holds, Listing}
use Rattle.index_lists.specs.Making.{Adds, IsThere, Removes}
use Rattle.index_lists.specs.Pairs.{Pair}
use Rattle.index_lists.specs.Ready.{AreReady, IsReady, Prepared}
use Rattle.index_lists.specs.Steps.{HaveRoom}
use Rattle.index_lists.specs.contracts.lists.Lists.{the_view}
use Rattle.index_lists.proofs.CommitLemmas.{add_holds, after_add, after_remove, remove_holds, some_left}
use Rattle.index_lists.proofs.PlaceLemmas.{apart_terms}
use Rattle.index_lists.proofs.ReadyLemmas.{Leaves, add_leaves, count_few, first_room, holds_room, ready_behind, ready_room, remove_leaves, same_long}
use Rattle.index_lists.proofs.TellsLemmas.{same_term, tells}
use Rattle.index_lists.proofs.lists.Lists.commit.Goals as goal

pub overflow_sub-self : goal.overflow_sub-self
overflow_sub-self c = let r = c.requires.ready.1.few in let v = ap (λ (l : Listing). l.room) c.self.view_is in omega (arith, r, v)

pub add-requires-clause-counted : goal.add-requires-clause-counted
add-requires-clause-counted c =
    let r = c.requires.ready.1.each.0.counted in
    let v = ap (λ (l : Listing). length l.counts) c.self.view_is in
    let id = ap (λ (p : Prepared). p.change.id) c.staged.view_is in
    omega (arith, r, v, id)

pub add-requires-clause-few : goal.add-requires-clause-few
add-requires-clause-few c =
    let few = count_few c.requires.holds.0 c.args.self.now c.requires.holds.1 c.args.staged.change.id in
    let at : get_or c.self.inside.counts.items c.staged.inside.change.id 0 ≡ get_or c.args.self.now.counts c.args.staged.change.id 0 = (λ i. get_or (c.self.view_is i).counts (c.staged.view_is i).change.id 0) in
    let r = c.requires.ready.1.few in
    let room = ap (λ (l : Listing). l.room) c.self.view_is in
    let pairs = ap (λ (l : Listing). l.pairs) c.self.view_is in
    let kept = c.self.invariant in
    omega (arith, few, at, r, room, pairs, kept)

pub add-requires-clause-room : goal.add-requires-clause-room
add-requires-clause-room c =
    let r = c.requires.ready.1.few in
    let room = ap (λ (l : Listing). l.room) c.self.view_is in
    let kept = c.self.invariant in
    omega (arith, r, room, kept)

pub add-requires-clause-places : goal.add-requires-clause-places
add-requires-clause-places c =
    let have = first_room c.args.self.now c.args.staged c.requires.ready.0 c.requires.ready.1 in
    let is = c.deref.ensures.value ∙ ap (λ (p : Prepared). p.places) c.staged.view_is in
    subst (λ (ps : List ℕ). HaveRoom ps (values c.self.inside.map)) (sym is) (subst (λ (l : Listing). HaveRoom c.args.staged.places l.lists) (sym c.self.view_is) have)

pub remove-requires-clause-counted : goal.remove-requires-clause-counted
remove-requires-clause-counted c =
    let r = c.requires.ready.1.each.0.counted in
    let v = ap (λ (l : Listing). length l.counts) c.self.view_is in
    let id = ap (λ (p : Prepared). p.change.id) c.staged.view_is in
    omega (arith, r, v, id)

pub remove-requires-clause-some : goal.remove-requires-clause-some
remove-requires-clause-some c there =
    let is = c.deref-2.ensures.value ∙ ap (λ (p : Prepared). p.places) c.staged.view_is in
    let id = ap (λ (p : Prepared). p.change.id) c.staged.view_is in
    let old = the_view c.self.inside in
    let there' = subst (λ (n : ℕ). IsThere n c.args.staged.places old.lists true) id (subst (λ (ps : List ℕ). IsThere c.staged.inside.change.id ps old.lists true) is there) in
    let holds = subst (Holds c.requires.holds.0) (sym c.self.view_is) c.requires.holds.1 in
    let ready = subst (λ (l : Listing). IsReady l c.args.staged) (sym c.self.view_is) c.requires.ready.1.each.0 in
    let some = some_left c.requires.holds.0 old old c.args.staged holds c.requires.holds.2.0 ready (apart_terms same_term (keys c.self.inside.map) c.len.ensures.unique tells) (same_long c.self.inside.map.entries) there' in
    subst (λ (n : ℕ). (0 < get_or old.counts n 0) × (0 < old.pairs)) (sym id) some

pub returns-then-change-clause-ready : goal.returns-then-change-clause-ready
returns-then-change-clause-ready c prepared ready =
    let is = c.deref.ensures.value ∙ ap (λ (p : Prepared). p.places) c.staged.view_is in
    let old = the_view c.self.inside in
    let r = c.requires.ready.1.few in
    let v = ap (λ (l : Listing). l.room) c.self.view_is in
    let leaves = add_leaves old _ c.add.new.self c.staged.inside.change.id c.deref.result.now refl refl refl (omega (arith, r, v)) c.add.ensures in
    ready_behind old c.add.new.self c.args.staged prepared (subst (λ (ps : List ℕ). Leaves ps old c.add.new.self) is leaves) (subst (λ (l : Listing). AreReady l (c.args.staged ∷ prepared)) (sym c.self.view_is) ready)

pub returns-then-change-clause-holds : goal.returns-then-change-clause-holds
returns-then-change-clause-holds c pairs holds suits =
    let is = c.deref.ensures.value ∙ ap (λ (p : Prepared). p.places) c.staged.view_is in
    let id = ap (λ (p : Prepared). p.change.id) c.staged.view_is in
    let mid : Listing = record (the_view c.self.inside) { room = c.self.inside.room - 1 } in
    let ready = ready_room (the_view c.self.inside) mid c.args.staged refl refl (subst (λ (l : Listing). IsReady l c.args.staged) (sym c.self.view_is) c.requires.ready.1.each.0) in
    let adds = subst (λ (n : ℕ). Adds n c.args.staged.places mid c.add.new.self) id (subst (λ (ps : List ℕ). Adds c.staged.inside.change.id ps mid c.add.new.self) is c.add.ensures) in
    let add : c.args.staged.change.add ≡ true = sym (ap (λ (p : Prepared). p.change.add) c.staged.view_is) ∙ c.if-change.true in
    subst (λ (ps : List Pair). Holds ps c.add.new.self) (after_add c.args.staged.change pairs add)
    (add_holds pairs mid c.add.new.self c.args.staged (holds_room pairs (the_view c.self.inside) mid refl refl refl refl (subst (Holds pairs) (sym c.self.view_is) holds)) suits.0 ready (apart_terms same_term (keys c.self.inside.map) c.len.ensures.unique tells) (same_long c.self.inside.map.entries) adds suits.1)

pub returns-clause-ready : goal.returns-clause-ready
returns-clause-ready c prepared ready =
    let is = c.deref-2.ensures.value ∙ ap (λ (p : Prepared). p.places) c.staged.view_is in
    let old = the_view c.self.inside in
    let r = c.requires.ready.1.few in
    let v = ap (λ (l : Listing). l.room) c.self.view_is in
    let leaves = remove_leaves old _ c.remove.new.self c.staged.inside.change.id c.deref-2.result.now refl refl refl (omega (arith, r, v)) c.remove.ensures in
    ready_behind old c.remove.new.self c.args.staged prepared (subst (λ (ps : List ℕ). Leaves ps old c.remove.new.self) is leaves) (subst (λ (l : Listing). AreReady l (c.args.staged ∷ prepared)) (sym c.self.view_is) ready)

pub returns-clause-holds : goal.returns-clause-holds
returns-clause-holds c pairs holds suits =
    let is = c.deref-2.ensures.value ∙ ap (λ (p : Prepared). p.places) c.staged.view_is in
    let id = ap (λ (p : Prepared). p.change.id) c.staged.view_is in
    let mid : Listing = record (the_view c.self.inside) { room = c.self.inside.room - 1 } in
    let ready = ready_room (the_view c.self.inside) mid c.args.staged refl refl (subst (λ (l : Listing). IsReady l c.args.staged) (sym c.self.view_is) c.requires.ready.1.each.0) in
    let removes = subst (λ (n : ℕ). Removes n c.args.staged.places mid c.remove.new.self) id (subst (λ (ps : List ℕ). Removes c.staged.inside.change.id ps mid c.remove.new.self) is c.remove.ensures) in
    let add : c.args.staged.change.add ≡ false = sym (ap (λ (p : Prepared). p.change.add) c.staged.view_is) ∙ c.if-change.false in
    subst (λ (ps : List Pair). Holds ps c.remove.new.self) (after_remove c.args.staged.change pairs add)
    (remove_holds pairs mid c.remove.new.self c.args.staged (holds_room pairs (the_view c.self.inside) mid refl refl refl refl (subst (Holds pairs) (sym c.self.view_is) holds)) suits.0 ready (apart_terms same_term (keys c.self.inside.map) c.len.ensures.unique tells) (same_long c.self.inside.map.entries) removes)
