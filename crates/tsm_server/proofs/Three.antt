-- A list of three.
use Rattle.std.proofs.Common.{◌≡◌, List, [], ◌∷◌, length, get_or, arith}

pub three : {A : Type 0} (xs : List A) (a b c : A) → length xs ≡ 3 → a ≡ get_or xs 0 a → b ≡ get_or xs 1 b → c ≡ get_or xs 2 c → xs ≡ a ∷ b ∷ c ∷ []
three [] a b c len first second third = absurd (omega arith)
three (x ∷ []) a b c len first second third = absurd (omega arith)
three (x ∷ y ∷ []) a b c len first second third = absurd (omega arith)
three (x ∷ y ∷ z ∷ []) a b c len first second third = cc (first, second, third)
three (x ∷ y ∷ z ∷ u ∷ xs) a b c len first second third = absurd (omega arith)

-- a list of two
pub two : {A : Type 0} (xs : List A) (a b : A) → length xs ≡ 2 → a ≡ get_or xs 0 a → b ≡ get_or xs 1 b → xs ≡ a ∷ b ∷ []
two [] a b len first second = absurd (omega arith)
two (x ∷ []) a b len first second = absurd (omega arith)
two (x ∷ y ∷ []) a b len first second = cc (first, second)
two (x ∷ y ∷ z ∷ xs) a b len first second = absurd (omega arith)
