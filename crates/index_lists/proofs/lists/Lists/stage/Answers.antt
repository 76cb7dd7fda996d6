use Rattle.std.proofs.Common.{ℕ, List, refl, sym, subst, arith}
use Rattle.indexmap.specs.IndexMap.{keys, values}
use Rattle.tsdb_types.specs.Series.{IsSeriesText}
use Rattle.index_lists.specs.declared.term.Term.{Term}
use Rattle.index_lists.specs.Listing.{Holds, Listing}
use Rattle.index_lists.specs.Ready.{AreReady, Prepared, StandAt}
use Rattle.index_lists.specs.Steps.{Grows, MakesRoom, StepsAt}
use Rattle.index_lists.specs.Terms.{terms_of}
use Rattle.index_lists.specs.contracts.lists.Lists.{the_view}
use Rattle.index_lists.proofs.PlaceLemmas.{grows_none, on_err, steps_keep}
use Rattle.index_lists.proofs.ReadyLemmas.{grown_holds, grown_ready, keeps_none, ready_more, same_long}
use Rattle.index_lists.proofs.lists.Lists.stage.Goals as goal

pub returns-in_err-count_to-clause-err : goal.returns-in_err-count_to-clause-err
returns-in_err-count_to-clause-err c =
    on_err c.from_residual.result (λ prepared ready.
    grown_ready (the_view c.self.inside) _ (same_long c.self.inside.map.entries)
    (record { mids = values c.self.inside.map; grows = grows_none (keys c.self.inside.map) (values c.self.inside.map); kept = keeps_none (values c.self.inside.map); longer = c.count_to.ensures.long; same = c.count_to.ensures.same; pairs = refl; room = omega arith })
    prepared (subst (λ (l : Listing). AreReady l prepared) (sym c.self.view_is) ready))

pub returns-in_err-count_to-clause-holds : goal.returns-in_err-count_to-clause-holds
returns-in_err-count_to-clause-holds c pairs holds =
    grown_holds (the_view c.self.inside) _ (same_long c.self.inside.map.entries)
    (record { mids = values c.self.inside.map; grows = grows_none (keys c.self.inside.map) (values c.self.inside.map); kept = keeps_none (values c.self.inside.map); longer = c.count_to.ensures.long; same = c.count_to.ensures.same; pairs = refl; room = omega arith })
    pairs (subst (Holds pairs) (sym c.self.view_is) holds)

pub returns-in_err-places-clause-err : goal.returns-in_err-places-clause-err
returns-in_err-places-clause-err c =
    on_err c.from_residual-in_err-places.result (λ prepared ready.
    grown_ready (the_view c.self.inside) _ (same_long c.self.inside.map.entries)
    (record { mids = values c.places_of.new.map; grows = c.places_of.ensures.grows; kept = keeps_none (values c.places_of.new.map); longer = c.count_to.ensures.long; same = c.count_to.ensures.same; pairs = refl; room = omega arith })
    prepared (subst (λ (l : Listing). AreReady l prepared) (sym c.self.view_is) ready))

pub returns-in_err-places-clause-holds : goal.returns-in_err-places-clause-holds
returns-in_err-places-clause-holds c pairs holds =
    grown_holds (the_view c.self.inside) _ (same_long c.self.inside.map.entries)
    (record { mids = values c.places_of.new.map; grows = c.places_of.ensures.grows; kept = keeps_none (values c.places_of.new.map); longer = c.count_to.ensures.long; same = c.count_to.ensures.same; pairs = refl; room = omega arith })
    pairs (subst (Holds pairs) (sym c.self.view_is) holds)

pub returns-in_err-make_rooms-clause-err : goal.returns-in_err-make_rooms-clause-err
returns-in_err-make_rooms-clause-err c =
    let grows = subst (λ (ts : List Term). Grows (keys c.self.inside.map) (values c.self.inside.map) ts (values c.places_of.new.map)) (sym c.make_rooms.ensures.terms) c.places_of.ensures.grows in
    on_err c.from_residual-in_err-make_rooms.result (λ prepared ready.
    grown_ready (the_view c.self.inside) _ (same_long c.self.inside.map.entries)
    (record { mids = values c.places_of.new.map; grows = grows; kept = c.in_err-make_rooms.ensures.err; longer = c.count_to.ensures.long; same = c.count_to.ensures.same; pairs = refl; room = omega arith })
    prepared (subst (λ (l : Listing). AreReady l prepared) (sym c.self.view_is) ready))

pub returns-in_err-make_rooms-clause-holds : goal.returns-in_err-make_rooms-clause-holds
returns-in_err-make_rooms-clause-holds c pairs holds =
    let grows = subst (λ (ts : List Term). Grows (keys c.self.inside.map) (values c.self.inside.map) ts (values c.places_of.new.map)) (sym c.make_rooms.ensures.terms) c.places_of.ensures.grows in
    grown_holds (the_view c.self.inside) _ (same_long c.self.inside.map.entries)
    (record { mids = values c.places_of.new.map; grows = grows; kept = c.in_err-make_rooms.ensures.err; longer = c.count_to.ensures.long; same = c.count_to.ensures.same; pairs = refl; room = omega arith })
    pairs (subst (Holds pairs) (sym c.self.view_is) holds)

pub returns-clause-ready : goal.returns-clause-ready
returns-clause-ready c prepared ready =
    let places = c.in_ok-places.places.items in
    let one : Prepared = record { change = c.args.change; places = places } in
    let mid : Listing = record { terms = keys c.places_of.new.map; lists = values c.places_of.new.map; counts = c.count_to.new.counts.items; pairs = c.self.inside.pairs; room = c.self.inside.room } in
    let steps = subst (λ (ps : List ℕ). StepsAt MakesRoom ps (values c.places_of.new.map) (values c.make_rooms.new.map)) c.deref.ensures.value c.in_ok-make_rooms.ensures.ok in
    ready_more mid _ prepared one
    (grown_ready (the_view c.self.inside) mid (same_long c.self.inside.map.entries)
    (record { mids = values c.places_of.new.map; grows = c.places_of.ensures.grows; kept = keeps_none (values c.places_of.new.map); longer = c.count_to.ensures.long; same = c.count_to.ensures.same; pairs = refl; room = omega arith })
    prepared (subst (λ (l : Listing). AreReady l prepared) (sym c.self.view_is) ready))
    (record {
      terms = subst (λ (ts : List Term). StandAt ts (terms_of c.args.change.series c.args.change.field) places) (sym c.make_rooms.ensures.terms) c.in_ok-places.ensures.places;
      text = subst IsSeriesText c.text.ensures.text c.text.ensures.series;
      counted = c.in_ok-count_to.ensures.ok;
    })
    steps c.make_rooms.ensures.terms refl refl

pub returns-clause-holds : goal.returns-clause-holds
returns-clause-holds c pairs holds =
    let grows = subst (λ (ts : List Term). Grows (keys c.self.inside.map) (values c.self.inside.map) ts (values c.places_of.new.map)) (sym c.make_rooms.ensures.terms) c.places_of.ensures.grows in
    grown_holds (the_view c.self.inside) _ (same_long c.self.inside.map.entries)
    (record {
      mids = values c.places_of.new.map;
      grows = grows;
      kept = steps_keep c.deref.result.now (values c.places_of.new.map) (values c.make_rooms.new.map) c.in_ok-make_rooms.ensures.ok;
      longer = c.count_to.ensures.long;
      same = c.count_to.ensures.same;
      pairs = refl;
      room = omega arith;
    })
    pairs (subst (Holds pairs) (sym c.self.view_is) holds)
