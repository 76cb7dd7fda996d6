-- Lists whose next element stands last.
use Rattle.std.proofs.Common.{◌≡◌, ◌∙◌, ap, sym, refl, ℕ, List, [], ◌∷◌, ◌++◌, length, reverse, Option, Some, None, is_some, option_to_list, MatchOption, Vec, Global, append-nil, arith}
use Rattle.std.proofs.lemmas.List.{reverse-append}
use Rattle.std.proofs.lemmas.Bool.{false≢true}
use Rattle.point_model.specs.Rows.{Row}
use Rattle.store_trait.specs.Lists.{lists_of}

pub no_length : {X : Type 0} (xs : List X) → length xs ≡ 0 → xs ≡ []
no_length [] e = refl
no_length (x ∷ xs) e = absurd (omega (arith, e))

pub popped : {X : Type 0} (last : Option X) (old new : List X) → old ≡ new ++ option_to_list last → (last ≡ None → length old ≡ 0)
    → MatchOption last ((reverse old ≡ []) × (reverse new ≡ [])) (λ x. reverse old ≡ x ∷ reverse new)
popped {X} None old new is empty =
    let none = no_length old (empty refl) in
    (ap (λ (xs : List X). reverse xs) none, ap (λ (xs : List X). reverse xs) (sym (append-nil new) ∙ sym is ∙ none))
popped {X} (Some x) old new is empty = ap (λ (xs : List X). reverse xs) is ∙ reverse-append new (x ∷ [])

pub lists-push : (rows : List (Vec Row Global)) (row : Vec Row Global) → lists_of (rows ++ row ∷ []) ≡ lists_of rows ++ reverse row.items ∷ []
lists-push [] row = refl
lists-push (first ∷ rows) row = ap (λ (ls : List (List Row)). reverse first.items ∷ ls) (lists-push rows row)

-- nothing was taken of an empty list alone
pub emptied : {X : Type 0} (last : Option X) (old new : ℕ) (P : X → Type 0) → MatchOption last ((old ≡ 0) × (new ≡ 0)) P → last ≡ None → old ≡ 0
emptied None old new P cases e = cases.0
emptied (Some x) old new P cases e = absurd (false≢true (sym (ap is_some e)))
