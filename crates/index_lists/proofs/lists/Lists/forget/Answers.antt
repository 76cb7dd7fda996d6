use Rattle.std.proofs.Common.{◌-◌, get_or, refl, subst}
use Rattle.indexmap.specs.IndexMap.{keys, values}
use Rattle.index_lists.specs.Listing.{Listing, Takes}
use Rattle.index_lists.specs.Making.{Forgets}
use Rattle.index_lists.specs.Steps.{StepsAt}
use Rattle.index_lists.proofs.MakingLemmas.{last_one, not_last}
use Rattle.index_lists.proofs.StepLemmas.{steps_none}
use Rattle.index_lists.proofs.lists.Lists.forget.Goals as goal

pub returns-then-left-eq0 : goal.returns-then-left-eq0
returns-then-left-eq0 c =
    let new : Listing = record { terms = keys c.take_all.new.map; lists = values c.take_all.new.map; counts = c.count_less-left.new.counts.items; pairs = c.self.inside.pairs - 1; room = c.self.inside.room } in
    subst (λ (l : Listing). Forgets c.args.id c.args.places.now l new) c.self.view_is (record {
      lists = last_one (λ ps. StepsAt (Takes c.args.id) ps (values c.self.inside.map) (values c.take_all.new.map)) (get_or c.self.inside.counts.items c.args.id 0) c.count_less-left.result c.args.places.now c.count_less-left.ensures.left c.if-left-eq0.true c.take_all.ensures.takes;
      terms = c.take_all.ensures.terms;
      counts = c.count_less-left.ensures.counts;
      pairs = refl;
      room = refl;
    })

pub returns-else-left-eq0 : goal.returns-else-left-eq0
returns-else-left-eq0 c =
    let new : Listing = record { terms = keys c.self.inside.map; lists = values c.self.inside.map; counts = c.count_less-left.new.counts.items; pairs = c.self.inside.pairs - 1; room = c.self.inside.room } in
    subst (λ (l : Listing). Forgets c.args.id c.args.places.now l new) c.self.view_is (record {
      lists = not_last (λ ps. StepsAt (Takes c.args.id) ps (values c.self.inside.map) (values c.self.inside.map)) (get_or c.self.inside.counts.items c.args.id 0) c.count_less-left.result c.args.places.now c.count_less-left.ensures.left c.if-left-eq0.false (steps_none (Takes c.args.id) (values c.self.inside.map));
      terms = refl;
      counts = c.count_less-left.ensures.counts;
      pairs = refl;
      room = refl;
    })
