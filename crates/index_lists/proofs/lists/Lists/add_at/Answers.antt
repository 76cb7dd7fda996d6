use Rattle.std.proofs.Common.{◌+◌, ◌∷◌, true, false, not, Bool, refl, sym, ◌∙◌, subst}
use Rattle.indexmap.specs.IndexMap.{keys, values}
use Rattle.index_lists.specs.Listing.{Listing, Puts}
use Rattle.index_lists.specs.Making.{Adds, IsThere}
use Rattle.index_lists.specs.Steps.{HaveRoom}
use Rattle.index_lists.proofs.MakingLemmas.{first_has_room, others_have_room, steps_cons, there_put}
use Rattle.index_lists.proofs.lists.Lists.add_at.Goals as goal

pub put_at-fresh-requires : goal.put_at-fresh-requires
put_at-fresh-requires c =
    let have = subst (λ (l : Listing). HaveRoom (c.args.first ∷ c.args.others.now) l.lists) (sym c.self.view_is) c.requires.places in
    first_has_room c.args.first c.args.others.now (c.args.first ∷ c.args.others.now) (values c.self.inside.map) refl have

pub put_all-requires : goal.put_all-requires
put_all-requires c =
    let have = subst (λ (l : Listing). HaveRoom (c.args.first ∷ c.args.others.now) l.lists) (sym c.self.view_is) c.requires.places in
    others_have_room c.args.id c.args.first c.args.others.now (c.args.first ∷ c.args.others.now) (values c.self.inside.map) (values c.put_at-fresh.new.map) refl have c.put_at-fresh.ensures.puts

pub returns-then-fresh : goal.returns-then-fresh
returns-then-fresh c =
    let new : Listing = record { terms = keys c.put_all.new.map; lists = values c.put_all.new.map; counts = c.count_more.new.counts.items; pairs = c.self.inside.pairs + 1; room = c.self.inside.room } in
    let was = there_put c.args.id c.args.first c.args.others.now (c.args.first ∷ c.args.others.now) (values c.self.inside.map) c.put_at-fresh.result refl c.put_at-fresh.ensures.fresh in
    subst (λ (l : Listing). Adds c.args.id (c.args.first ∷ c.args.others.now) l new) c.self.view_is (record {
      there = false;
      was = subst (λ (b : Bool). IsThere c.args.id (c.args.first ∷ c.args.others.now) (values c.self.inside.map) (not b)) c.if-fresh.true was;
      lists = steps_cons (Puts c.args.id) c.args.first c.args.others.now (values c.self.inside.map) (values c.put_at-fresh.new.map) (values c.put_all.new.map) c.put_at-fresh.ensures.puts c.put_all.ensures.puts;
      terms = c.put_all.ensures.terms ∙ c.put_at-fresh.ensures.terms;
      counts = c.count_more.ensures;
      pairs = refl;
      room = refl;
    })

pub returns-else-fresh : goal.returns-else-fresh
returns-else-fresh c =
    let new : Listing = record { terms = keys c.put_all.new.map; lists = values c.put_all.new.map; counts = c.self.inside.counts.items; pairs = c.self.inside.pairs; room = c.self.inside.room } in
    let was = there_put c.args.id c.args.first c.args.others.now (c.args.first ∷ c.args.others.now) (values c.self.inside.map) c.put_at-fresh.result refl c.put_at-fresh.ensures.fresh in
    subst (λ (l : Listing). Adds c.args.id (c.args.first ∷ c.args.others.now) l new) c.self.view_is (record {
      there = true;
      was = subst (λ (b : Bool). IsThere c.args.id (c.args.first ∷ c.args.others.now) (values c.self.inside.map) (not b)) c.if-fresh.false was;
      lists = steps_cons (Puts c.args.id) c.args.first c.args.others.now (values c.self.inside.map) (values c.put_at-fresh.new.map) (values c.put_all.new.map) c.put_at-fresh.ensures.puts c.put_all.ensures.puts;
      terms = c.put_all.ensures.terms ∙ c.put_at-fresh.ensures.terms;
      counts = refl;
      pairs = refl;
      room = refl;
    })
