-- Which texts are among some.
use Rattle.std.proofs.Common.{◌≡◌, ℕ, Bool, true, false, ◌||◌, List, [], ◌∷◌, ◌++◌, refl, ap, ◌∙◌}
use Rattle.std.specs.Str.{bytes_eq}
use Rattle.std.proofs.lemmas.Slice.Eq.{bytes_eq-Decides}
use Rattle.shard_steps.specs.Series.{is_among}

pub one_text : (a b : List ℕ) → bytes_eq a b ≡ true → a ≡ b
one_text a b same = (bytes_eq-Decides a b).0 same

pub same_text : (a b : List ℕ) → a ≡ b → bytes_eq a b ≡ true
same_text a b is = (bytes_eq-Decides a b).1 is

-- a case of a test, with what it says
pub by_case : {C : Type 0} (b : Bool) → (b ≡ true → C) → (b ≡ false → C) → C
by_case true holds fails = holds refl
by_case false holds fails = fails refl

pub among_append : (xs ys : List (List ℕ)) (text : List ℕ) → is_among (xs ++ ys) text ≡ (is_among xs text || is_among ys text)
among_append [] ys text = refl
among_append (x ∷ xs) ys text = ap (λ (b : Bool). bytes_eq text x || b) (among_append xs ys text) ∙ assoc (bytes_eq text x) (is_among xs text) (is_among ys text)
  where
    assoc : (a b c : Bool) → (a || (b || c)) ≡ ((a || b) || c)
    assoc true b c = refl
    assoc false b c = refl

pub nor : (b : Bool) → (b || false) ≡ b
nor true = refl
nor false = refl

pub among_one : (x text : List ℕ) → is_among (x ∷ []) text ≡ bytes_eq text x
among_one x text = nor (bytes_eq text x)
