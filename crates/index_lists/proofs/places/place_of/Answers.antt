use Rattle.std.proofs.Common.{◌≡◌, ℕ, List, [], ◌∷◌, ◌++◌, slice_get, sym, ap, ◌∙◌, subst}
use Rattle.std.specs.Map.{keys_of, values_of}
use Rattle.std.proofs.lemmas.List.{map-append}
use Rattle.indexmap.specs.IndexMap.{keys, values}
use Rattle.indexmap.proofs.CallerLemmas.{insert_entry-new}
use Rattle.index_lists.specs.declared.term.Term.{Term}
use Rattle.index_lists.specs.Listing.{Listed}
use Rattle.index_lists.specs.Steps.{Grows}
use Rattle.index_lists.proofs.StepLemmas.{Entry}
use Rattle.index_lists.proofs.PlaceLemmas.{found_place, grows_none, grows_one, keys_long, last_get, none_is, not_known}
use Rattle.index_lists.proofs.TellsLemmas.{same_term, tells}
use Rattle.index_lists.proofs.places.place_of.Goals as goal

pub returns-in-Some-clause-grows : goal.returns-in-Some-clause-grows
returns-in-Some-clause-grows c = grows_none (keys c.args.map.now) (values c.args.map.now)

pub returns-in-Some-clause-place : goal.returns-in-Some-clause-place
returns-in-Some-clause-place c = found_place same_term (keys c.args.map.now) c.args.term c.in-Some.place (sym c.in-Some.ensures.index) tells

pub returns-in_err-insert-in-None-clause-grows : goal.returns-in_err-insert-in-None-clause-grows
returns-in_err-insert-in-None-clause-grows c =
    subst (λ (es : List Entry). Grows (keys c.args.map.now) (values c.args.map.now) (keys_of es) (values_of es)) (sym c.in_err-insert-in-None.ensures.err) (grows_none (keys c.args.map.now) (values c.args.map.now))

pub returns-in_ok-insert-in-None-clause-grows : goal.returns-in_ok-insert-in-None-clause-grows
returns-in_ok-insert-in-None-clause-grows c =
    let es = c.args.map.now.entries in
    let none = sym c.in-None.ensures.found in
    let is : c.insert.new.self.entries ≡ es ++ (c.args.term, c.new.result) ∷ [] = c.in_ok-insert-in-None.ensures.entries ∙ insert_entry-new same_term c.args.map.now c.args.term c.new.result (none_is _ none) in
    grows_one (keys_of es) (keys_of c.insert.new.self.entries) (values_of es) (values_of c.insert.new.self.entries) c.args.term (not_known same_term es c.args.term none tells)
    (ap (λ (xs : List Entry). keys_of xs) is ∙ map-append (λ (e : Entry). e.0) es ((c.args.term, c.new.result) ∷ []))
    (ap (λ (xs : List Entry). values_of xs) is ∙ map-append (λ (e : Entry). e.1) es ((c.args.term, c.new.result) ∷ []) ∙ ap (λ (l : Listed). values_of es ++ l ∷ []) c.new.ensures)

pub returns-in_ok-insert-in-None-clause-place : goal.returns-in_ok-insert-in-None-clause-place
returns-in_ok-insert-in-None-clause-place c =
    let es = c.args.map.now.entries in
    let none = sym c.in-None.ensures.found in
    let is : c.insert.new.self.entries ≡ es ++ (c.args.term, c.new.result) ∷ [] = c.in_ok-insert-in-None.ensures.entries ∙ insert_entry-new same_term c.args.map.now c.args.term c.new.result (none_is _ none) in
    let keys_are = ap (λ (xs : List Entry). keys_of xs) is ∙ map-append (λ (e : Entry). e.0) es ((c.args.term, c.new.result) ∷ []) in
    ap (λ (ts : List Term). slice_get ts c.len-place.result) keys_are
    ∙ ap (λ (n : ℕ). slice_get (keys_of es ++ c.args.term ∷ []) n) (c.len-place.ensures.len ∙ sym (keys_long es))
    ∙ last_get (keys_of es) c.args.term
