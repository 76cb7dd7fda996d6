-- What completes a condition that is half read: which sides of which joins are open around the place.
use Rattle.std.specs.Prelude.{◌≡◌, ℕ, ◌+◌, ◌≤◌, List, [], ◌∷◌, ◌++◌, length}
use Rattle.point_model.specs.Conditions.{Condition, nesting}
use Rattle.point_model.specs.Flat.{Side, First, Second, condition_of}
use Rattle.point_model.specs.Flat.{joined as join_of}
use Rattle.point_model.specs.declared.part.Join.{Join}
use Rattle.point_model.specs.declared.part.Join.TheVariants as join
use Rattle.point_model.specs.declared.part.Part.{Part}
use Rattle.point_model.specs.declared.part.Part.TheVariants as part
use Rattle.wal_store.specs.Conditions.{condition_bytes, AreComparisons, IsCondition}

-- which join it is
abbrev pub byte_of : Join → ℕ
byte_of join.And = 3
byte_of join.Or = 4

-- With `part` at the innermost open side (the list begins with it), these bytes complete the condition to `whole`.
abbrev pub Completes : List Side → Condition → Condition → List ℕ → Type 0
Completes [] part whole bytes = (whole ≡ part) × (bytes ≡ [])
Completes (First join ∷ sides) part whole bytes =
    (second : Condition) × (more : List ℕ) × (bytes ≡ condition_bytes second ++ more) × Completes sides (join_of join part second) whole more
Completes (Second join first ∷ sides) part whole bytes = Completes sides (join_of join first part) whole bytes

-- the sides that were read can be written, and with the sides around them they are nested at most so deep
abbrev pub AreSides : ℕ → List Side → Type 0
AreSides most [] = Unit {0}
AreSides most (First join ∷ sides) = (length sides + 1 ≤ most) × AreSides most sides
AreSides most (Second join first ∷ sides) = AreComparisons first × (nesting first + (length sides + 1) ≤ most) × AreSides most sides

-- the part makes this condition whole
pub record Closes (most : ℕ) (sides : List Side) (part whole : Condition) : Type 0 where
  pub closes : Completes sides part whole []
  pub only : (other : Condition) (more : List ℕ) → Completes sides part other more → (other ≡ whole) × (more ≡ [])
  pub is : IsCondition most whole

-- with the part put in, a further side is read, at the innermost of the new sides
pub record Awaits (most : ℕ) (old : List Side) (part : Condition) (new : List Side) : Type 0 where
  pub only : (whole : Condition) (more : List ℕ) → Completes old part whole more
      → (second : Condition) × (rest : List ℕ) × (more ≡ condition_bytes second ++ rest) × Completes new second whole rest
  pub back : (second whole : Condition) (rest : List ℕ) → Completes new second whole rest → Completes old part whole (condition_bytes second ++ rest)
  pub are : AreSides most new

-- a condition without sides, and no other begins the bytes
pub record IsLeaf (leaf : Condition) (bytes rest : List ℕ) : Type 0 where
  pub whole : bytes ≡ condition_bytes leaf ++ rest
  pub comparisons : AreComparisons leaf
  pub flat : nesting leaf ≡ 0
  pub only : (other : Condition) (others : List ℕ) → AreComparisons other → bytes ≡ condition_bytes other ++ others → (other ≡ leaf) × (others ≡ rest)

-- what stands first in the bytes: a condition without sides, or a join, in one byte
abbrev pub IsNode : Part → List ℕ → List ℕ → Type 0
IsNode (part.Test test) bytes rest = IsLeaf (condition_of test) bytes rest
IsNode (part.Join join) bytes rest = bytes ≡ byte_of join ∷ rest
