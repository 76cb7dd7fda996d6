use Rattle.std.proofs.Common.{◌≡◌, List, [], ◌∷◌, ◌++◌, length, refl, sym, ap, ◌∙◌, subst, arith, append_assoc, append-nil}
use Rattle.std.specs.Vec.Iter.{into_iter_items}
use Rattle.indexmap.specs.IndexMap.{keys, values}
use Rattle.index_lists.specs.declared.term.Term.{Term}
use Rattle.index_lists.specs.Ready.{StandAt}
use Rattle.index_lists.proofs.PlaceLemmas.{grows_none, grows_then, stand_grows, stand_push}
use Rattle.index_lists.proofs.places.add_places.Goals as goal

nothing_left : (l : List Term) → length l ≡ 0 → l ≡ []
nothing_left [] none = refl
nothing_left (x ∷ xs) none = absurd (omega (arith, none))

pub loop-term-init : goal.loop-term-init
loop-term-init c =
    let are = c.into_iter-term-iterator.ensures.into_iter_gives.0 in
    record {
      grows = grows_none (keys c.args.map.now) (values c.args.map.now);
      stand = λ before at. ([], refl, subst (λ (ts : List Term). StandAt (keys c.args.map.now) ts c.args.places.now.items) (sym (append-nil before)) at);
      len = c.into_iter-term-iterator.ensures.into_iter_gives.1 ∙ c.args.terms.ok.0 ∙ ap length (sym are);
    }

pub loop-term-preserved : goal.loop-term-preserved
loop-term-preserved c =
    let inv = c.loop-term.invariant in
    let left = into_iter_items c.next.new.self in
    let steps : into_iter_items c.loop-term.term-iterator ≡ c.in-Some.term ∷ left = c.in-Some.ensures.steps.0 in
    record {
      grows = grows_then (keys c.args.map.now) (keys c.loop-term.map) (keys c.place_of.new.map) (values c.args.map.now) (values c.loop-term.map) (values c.place_of.new.map) inv.grows c.place_of.ensures.grows;
      stand = λ before at.
          let s = inv.stand before at in (
            s.0 ++ c.in-Some.term ∷ [],
            append_assoc s.0 (c.in-Some.term ∷ []) left ∙ ap (λ (l : List Term). s.0 ++ l) (sym steps) ∙ s.1,
            subst (λ (ts : List Term). StandAt (keys c.place_of.new.map) ts c.push.new.self.items) (append_assoc before s.0 (c.in-Some.term ∷ []))
                (stand_push (keys c.place_of.new.map) (before ++ s.0) c.loop-term.places.items c.push.new.self.items c.in-Some.term c.in_ok-place.place c.in_ok-push.ensures.items
                (stand_grows (keys c.loop-term.map) (keys c.place_of.new.map) (values c.loop-term.map) (values c.place_of.new.map) (before ++ s.0) c.loop-term.places.items c.place_of.ensures.grows s.2) c.in_ok-place.ensures.place),
          );
      len = omega (arith, inv.len, ap length steps, c.in-Some.ensures.steps.1);
    }

pub returns-in_err-place-clause-grows : goal.returns-in_err-place-clause-grows
returns-in_err-place-clause-grows c = grows_then (keys c.args.map.now) (keys c.loop-term.map) (keys c.place_of.new.map) (values c.args.map.now) (values c.loop-term.map) (values c.place_of.new.map) c.loop-term.invariant.grows c.place_of.ensures.grows

pub returns-in_err-push-clause-grows : goal.returns-in_err-push-clause-grows
returns-in_err-push-clause-grows c = grows_then (keys c.args.map.now) (keys c.loop-term.map) (keys c.place_of.new.map) (values c.args.map.now) (values c.loop-term.map) (values c.place_of.new.map) c.loop-term.invariant.grows c.place_of.ensures.grows

pub returns-clause-places : goal.returns-clause-places
returns-clause-places c before at =
    let inv = c.loop-term.invariant in
    let s = inv.stand before at in
    let empty : into_iter_items c.loop-term.term-iterator ≡ [] = nothing_left _ (sym inv.len ∙ c.in-None.ensures.steps.0) in
    let done : s.0 ≡ c.args.terms.items = sym (append-nil s.0) ∙ ap (λ (l : List Term). s.0 ++ l) (sym empty) ∙ s.1 ∙ c.into_iter-term-iterator.ensures.into_iter_gives.0 in
    subst (λ (ts : List Term). StandAt (keys c.loop-term.map) (before ++ ts) c.loop-term.places.items) done s.2
