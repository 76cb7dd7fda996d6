-- What a history is made of, and when one list is the beginning of another.
use Rattle.std.specs.Prelude.{◌≡◌, ℕ, zero, suc, ◌+◌, List, [], ◌∷◌, ◌++◌, Option, Some, None}

-- ys begins with xs; each list begins with itself and with the empty list
abbrev pub StartsWith : {A : Type 0} → List A → List A → Type 0
StartsWith ys xs = (more : List _) × (ys ≡ xs ++ more)

-- the one entry, or none
abbrev pub listed : {A : Type 0} → Option A → List A
listed (Some x) = x ∷ []
listed None = []

-- the next `count` numbers after n, greatest first: n itself isn't one
abbrev pub numbers_after : ℕ → ℕ → List ℕ
numbers_after n zero = []
numbers_after n (suc count) = (n + suc count) ∷ numbers_after n count
