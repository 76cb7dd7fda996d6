use Rattle.std.proofs.Common.{◌≡◌, ℕ, List, [], ◌∷◌, ◌++◌, Some, slice_get, map, ap, ◌∙◌, subst}
use Rattle.indexmap.specs.IndexMap.{keys, values}
use Rattle.index_lists.specs.declared.term.Term.{Term}
use Rattle.index_lists.specs.declared.term.Term.TheVariants.{Field}
use Rattle.index_lists.specs.Ready.{StandAt}
use Rattle.index_lists.specs.Terms.{measurement_of}
use Rattle.index_lists.proofs.PlaceLemmas.{grows_then}
use Rattle.index_lists.proofs.places.places_of.Goals as goal

pub returns-in_err-add_places-clause-grows : goal.returns-in_err-add_places-clause-grows
returns-in_err-add_places-clause-grows c = grows_then (keys c.args.map.now) (keys c.place_of.new.map) (keys c.add_places.new.map) (values c.args.map.now) (values c.place_of.new.map) (values c.add_places.new.map) c.place_of.ensures.grows c.add_places.ensures.grows

pub returns-clause-grows : goal.returns-clause-grows
returns-clause-grows c = grows_then (keys c.args.map.now) (keys c.place_of.new.map) (keys c.add_places.new.map) (values c.args.map.now) (values c.place_of.new.map) (values c.add_places.new.map) c.place_of.ensures.grows c.add_places.ensures.grows

pub returns-clause-places : goal.returns-clause-places
returns-clause-places c =
    let own = Field (measurement_of c.args.series.now) c.args.field.now in
    let m = c.in_ok-carry.ensures ∙ c.in_ok-measurement.ensures in
    let here : slice_get (keys c.place_of.new.map) c.in_ok-first.first ≡ Some own = c.in_ok-first.ensures.place ∙ (λ i. Some (Field (m i) (c.in_ok-carry-2.ensures i))) in
    let items : c.push.new.self.items ≡ c.in_ok-first.first ∷ [] = c.in_ok-push.ensures.items ∙ ap (λ (l : List ℕ). l ++ c.in_ok-first.first ∷ []) c.new-places.ensures.items in
    let one : StandAt (keys c.place_of.new.map) (own ∷ []) c.push.new.self.items = ap (λ (l : List ℕ). map (slice_get (keys c.place_of.new.map)) l) items ∙ (λ i. here i ∷ []) in
    subst (λ (ts : List Term). StandAt (keys c.add_places.new.map) (own ∷ ts) c.add_places.new.places.items) c.in_ok-series_terms.ensures (c.in_ok-add_places.ensures.places (own ∷ []) one)
