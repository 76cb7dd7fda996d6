-- Which bytes is a condition on tags, and which conditions can be written?
use Rattle.std.specs.Prelude.{ℕ, ◌≤◌, List, [], ◌∷◌, ◌++◌, length}
use Rattle.std.specs.List.{AllByRecursion}
use Rattle.point_model.specs.Conditions.{Condition, True, Eq, Ne, And, Or, nesting}
use Rattle.point_model.specs.declared.part.Join.TheVariants as join
use Rattle.point_model.specs.declared.part.Part.{Part}
use Rattle.point_model.specs.declared.part.Part.TheVariants as part
use Rattle.point_model.specs.declared.part.TagTest.TheVariants as test
use Rattle.wal_store.specs.Form.{text_bytes, IsText, IsNameText}

-- Which condition it is in one byte: 0 true, 1 equal and 2 unequal with the key and the text, 3 and, 4 or with the two sides.
abbrev pub condition_bytes : Condition → List ℕ
condition_bytes True = 0 ∷ []
condition_bytes (Eq key text) = 1 ∷ (text_bytes key ++ text_bytes text)
condition_bytes (Ne key text) = 2 ∷ (text_bytes key ++ text_bytes text)
condition_bytes (And first second) = 3 ∷ (condition_bytes first ++ condition_bytes second)
condition_bytes (Or first second) = 4 ∷ (condition_bytes first ++ condition_bytes second)

-- a part of it without the sides of a join
abbrev pub part_bytes : Part → List ℕ
part_bytes (part.Test test.True) = 0 ∷ []
part_bytes (part.Test (test.Eq key text)) = 1 ∷ (text_bytes key ++ text_bytes text)
part_bytes (part.Test (test.Ne key text)) = 2 ∷ (text_bytes key ++ text_bytes text)
part_bytes (part.Join join.And) = 3 ∷ []
part_bytes (part.Join join.Or) = 4 ∷ []

-- the keys with the texts that they are compared with
abbrev pub comparisons_of : Condition → List (List ℕ × List ℕ)
comparisons_of True = []
comparisons_of (Eq key text) = (key, text) ∷ []
comparisons_of (Ne key text) = (key, text) ∷ []
comparisons_of (And first second) = comparisons_of first ++ comparisons_of second
comparisons_of (Or first second) = comparisons_of first ++ comparisons_of second

-- the key is a name, and both have room
abbrev pub IsComparison : List ℕ × List ℕ → Type 0
IsComparison comparison = IsNameText comparison.0 × IsText comparison.1

-- each comparison can be written
abbrev pub AreComparisons : Condition → Type 0
AreComparisons condition = AllByRecursion IsComparison (comparisons_of condition)

-- the comparison of a part can be written
abbrev pub IsPart : Part → Type 0
IsPart (part.Test test.True) = Unit {0}
IsPart (part.Test (test.Eq key text)) = IsComparison (key, text)
IsPart (part.Test (test.Ne key text)) = IsComparison (key, text)
IsPart (part.Join join) = Unit {0}

-- the texts of a part have at most 65,535 bytes
abbrev pub HasShortPart : Part → Type 0
HasShortPart (part.Test test.True) = Unit {0}
HasShortPart (part.Test (test.Eq key text)) = (length key ≤ 65535) × (length text ≤ 65535)
HasShortPart (part.Test (test.Ne key text)) = (length key ≤ 65535) × (length text ≤ 65535)
HasShortPart (part.Join join) = Unit {0}

-- a condition whose parts can be written, and which is nested at most so deep
pub record IsCondition (most : ℕ) (condition : Condition) : Type 0 where
  pub comparisons : AreComparisons condition
  pub nested : nesting condition ≤ most
