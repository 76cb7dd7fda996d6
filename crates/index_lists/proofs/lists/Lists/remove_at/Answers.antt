use Rattle.std.proofs.Common.{◌∷◌, true, false, Bool, get_or, ◌<◌, refl, sym, ◌∙◌, subst}
use Rattle.indexmap.specs.IndexMap.{keys, values}
use Rattle.index_lists.specs.Listing.{Listing, Takes}
use Rattle.index_lists.specs.Making.{Removes, IsThere}
use Rattle.index_lists.specs.Steps.{GivesRoom}
use Rattle.index_lists.proofs.MakingLemmas.{steps_cons, there_taken}
use Rattle.index_lists.proofs.StepLemmas.{steps_none}
use Rattle.index_lists.proofs.lists.Lists.remove_at.Goals as goal

pub forget-requires-clause-some : goal.forget-requires-clause-some
forget-requires-clause-some c =
    let was = there_taken c.args.id c.args.first c.args.others.now (c.args.first ∷ c.args.others.now) (values c.self.inside.map) c.take_at-was.result refl c.take_at-was.ensures.was in
    let there = subst (λ (b : Bool). IsThere c.args.id (c.args.first ∷ c.args.others.now) (values c.self.inside.map) b) c.if-was.true was in
    let some = subst (λ (l : Listing). IsThere c.args.id (c.args.first ∷ c.args.others.now) l.lists true → (0 < get_or l.counts c.args.id 0) × (0 < l.pairs)) (sym c.self.view_is) c.requires.some in
    some there

pub returns-then-was : goal.returns-then-was
returns-then-was c =
    let was = there_taken c.args.id c.args.first c.args.others.now (c.args.first ∷ c.args.others.now) (values c.self.inside.map) c.take_at-was.result refl c.take_at-was.ensures.was in
    subst (λ (l : Listing). Removes c.args.id (c.args.first ∷ c.args.others.now) l c.forget.new.self) c.self.view_is (record {
      mid = values c.take_at-was.new.map;
      given = values c.give_rooms.new.map;
      there = true;
      was = subst (λ (b : Bool). IsThere c.args.id (c.args.first ∷ c.args.others.now) (values c.self.inside.map) b) c.if-was.true was;
      field = c.take_at-was.ensures.takes;
      gives = steps_cons GivesRoom c.args.first c.args.others.now (values c.take_at-was.new.map) (values c.give_room.new.map) (values c.give_rooms.new.map) c.give_room.ensures.gives c.give_rooms.ensures.gives;
      others = c.forget.ensures.lists;
      terms = c.forget.ensures.terms ∙ c.give_rooms.ensures.terms ∙ c.give_room.ensures.terms ∙ c.take_at-was.ensures.terms;
      counts = c.forget.ensures.counts;
      pairs = c.forget.ensures.pairs;
      room = c.forget.ensures.room;
    })

pub returns-else-was : goal.returns-else-was
returns-else-was c =
    let new : Listing = record { terms = keys c.give_rooms.new.map; lists = values c.give_rooms.new.map; counts = c.self.inside.counts.items; pairs = c.self.inside.pairs; room = c.self.inside.room } in
    let was = there_taken c.args.id c.args.first c.args.others.now (c.args.first ∷ c.args.others.now) (values c.self.inside.map) c.take_at-was.result refl c.take_at-was.ensures.was in
    subst (λ (l : Listing). Removes c.args.id (c.args.first ∷ c.args.others.now) l new) c.self.view_is (record {
      mid = values c.take_at-was.new.map;
      given = values c.give_rooms.new.map;
      there = false;
      was = subst (λ (b : Bool). IsThere c.args.id (c.args.first ∷ c.args.others.now) (values c.self.inside.map) b) c.if-was.false was;
      field = c.take_at-was.ensures.takes;
      gives = steps_cons GivesRoom c.args.first c.args.others.now (values c.take_at-was.new.map) (values c.give_room.new.map) (values c.give_rooms.new.map) c.give_room.ensures.gives c.give_rooms.ensures.gives;
      others = steps_none (Takes c.args.id) (values c.give_rooms.new.map);
      terms = c.give_rooms.ensures.terms ∙ c.give_room.ensures.terms ∙ c.take_at-was.ensures.terms;
      counts = refl;
      pairs = refl;
      room = refl;
    })
