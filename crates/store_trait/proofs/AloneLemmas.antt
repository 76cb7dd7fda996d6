-- A store that is alone changes by its own calls.
use Rattle.std.proofs.Common.{◌≡◌, ◌∙◌, ap, sym, refl, ℕ, ◌+◌, List, [], ◌∷◌, ◌++◌, length, IsTrue, arith, append-nil, length-append}
use Rattle.point_model.specs.declared.entry.Entry.{Entry}
use Rattle.store_trait.specs.Told.{Told, Keeps, OwnsAll, numbers_from}
use Rattle.store_trait.specs.Calls.Entry.{Accepts}

count_numbers : (number : ℕ) (entries : List Entry) → length (numbers_from number entries) ≡ length entries
count_numbers number [] = refl
count_numbers number (entry ∷ entries) = let rest = count_numbers (number + 1) entries in omega (arith, rest)

-- the history has as many entries as there are own numbers
as_many : (told : Told) → OwnsAll told → length told.history ≡ length told.own
as_many told owns = sym (ap length owns ∙ count_numbers (told.start.number + 1) told.history)

none_since : (old since : List Entry) → length (old ++ since) ≡ length old → since ≡ []
none_since old [] same = refl
none_since old (entry ∷ since) same = absurd (let sum = length-append old (entry ∷ since) in omega (arith, sum, same))

-- a list that begins with another of its length is that
pub no_longer : (old since new : List Entry) → new ≡ old ++ since → length new ≡ length old → new ≡ old
no_longer old since new begins same =
    begins ∙ ap (λ (l : List Entry). old ++ l) (none_since old since (sym (ap length begins) ∙ same)) ∙ append-nil old

pub refused_makes_none : (old new : Told) → Keeps old new → new.own ≡ old.own → IsTrue new.is_alone → OwnsAll old → new.history ≡ old.history
refused_makes_none old new kept same alone owns =
    no_longer old.history kept.history.since new.history kept.history.begins
    (as_many new (kept.alone alone owns) ∙ ap length same ∙ sym (as_many old owns))

pub accepted_makes_one : (made : Entry) (number : ℕ) (old new : Told) → Keeps old new → Accepts made number old new → IsTrue new.is_alone → OwnsAll old
    → new.history ≡ old.history ++ made ∷ []
accepted_makes_one made number old new kept accepts alone owns =
    let one : List Entry = made ∷ [] in
    let now = as_many new (kept.alone alone owns) in
    let was = as_many old owns in
    let more = ap length accepts.own in
    let added = length-append old.own (number ∷ []) in
    let whole = ap length accepts.entry in
    let joined = length-append accepts.before one in
    accepts.entry ∙ ap (λ (l : List Entry). l ++ one)
    (no_longer old.history accepts.later.since accepts.before accepts.later.begins (omega (arith, now, was, more, added, whole, joined)))
