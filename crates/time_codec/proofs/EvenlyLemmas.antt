-- What an iterator gave whose state shows the list of what is left.
use Rattle.std.proofs.Common.{◌≡◌, List, [], ◌∷◌, ◌++◌, ap, ◌∙◌}
use Rattle.std.proofs.lemmas.List.{append-nil}
use Rattle.std.specs.Iterator.{YieldsFirst, Yields, Drains}

yielded : {S A : Type 0} (rest : S → List A) (from to : S) (items : List A) → Yields (YieldsFirst rest) from items to → rest from ≡ items ++ rest to
yielded rest from to [] calls = ap rest calls
yielded rest from to (item ∷ items) calls = calls.1 ∙ ap (λ r. item ∷ r) (yielded rest calls.0 to items calls.2)

-- all that was left came
pub drained : {S A : Type 0} (rest : S → List A) (from : S) (items : List A) → Drains (YieldsFirst rest) from items → rest from ≡ items
drained rest from items calls =
    yielded rest from calls.1.0 items calls.1.1 ∙ ap (λ r. items ++ r) calls.1.2.0 ∙ append-nil items
