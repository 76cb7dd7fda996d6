use Rattle.std.proofs.Common.{◌≡◌, ◌∷◌, ℕ, List, refl, sym, ap, ◌∙◌, subst, arith}
use Rattle.indexmap.specs.IndexMap.{values}
use Rattle.index_lists.specs.Listing.{Holds, Listing}
use Rattle.index_lists.specs.Ready.{AreReady, Prepared}
use Rattle.index_lists.specs.Steps.{GivesRoom, StepsAt}
use Rattle.index_lists.specs.contracts.lists.Lists.{the_view}
use Rattle.index_lists.proofs.ReadyLemmas.{give_holds, give_leaves, ready_behind}
use Rattle.index_lists.proofs.lists.Lists.unstage.Goals as goal

pub returns-clause-ready : goal.returns-clause-ready
returns-clause-ready c prepared ready =
    let is : c.deref.result.now ≡ c.args.staged.places = c.deref.ensures.value ∙ ap (λ (p : Prepared). p.places) c.staged.view_is in
    let gives = subst (λ (ps : List ℕ). StepsAt GivesRoom ps (values c.self.inside.map) (values c.give_rooms.new.map)) is c.give_rooms.ensures.gives in
    ready_behind (the_view c.self.inside) _ c.args.staged prepared
    (give_leaves (the_view c.self.inside) _ c.args.staged.places c.give_rooms.ensures.terms refl (let s = c.saturating_sub-self-inside.ensures in omega (arith, s)) gives)
    (subst (λ (l : Listing). AreReady l (c.args.staged ∷ prepared)) (sym c.self.view_is) ready)

pub returns-clause-holds : goal.returns-clause-holds
returns-clause-holds c pairs holds =
    let is : c.deref.result.now ≡ c.args.staged.places = c.deref.ensures.value ∙ ap (λ (p : Prepared). p.places) c.staged.view_is in
    let gives = subst (λ (ps : List ℕ). StepsAt GivesRoom ps (values c.self.inside.map) (values c.give_rooms.new.map)) is c.give_rooms.ensures.gives in
    give_holds pairs (the_view c.self.inside) _ c.args.staged.places c.give_rooms.ensures.terms refl refl gives (subst (Holds pairs) (sym c.self.view_is) holds)
