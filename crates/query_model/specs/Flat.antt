-- How does a condition stand in a list: each `and` and `or` behind its two sides. How is such a list read?
use Rattle.std.specs.Prelude.{List, [], ◌∷◌, ◌++◌}
use Rattle.point_model.specs.declared.part.Join.{Join}
use Rattle.point_model.specs.declared.part.Join.TheVariants as join
use Rattle.query_model.specs.Conditions.{Condition, True, Compare, And, Or}
use Rattle.query_model.specs.declared.condition.CondPart.{CondPart}
use Rattle.query_model.specs.declared.condition.CondPart.TheVariants as part
use Rattle.query_model.specs.declared.condition.CondTest.{CondTest}
use Rattle.query_model.specs.declared.condition.CondTest.TheVariants as test

-- the condition of one test
abbrev pub condition_of : CondTest → Condition
condition_of test.True = True
condition_of (test.Compare name op literal) = Compare name op literal

abbrev pub joined : Join → Condition → Condition → Condition
joined join.And first second = And first second
joined join.Or first second = Or first second

-- the parts of a condition, each join behind its two sides
abbrev pub parts_of : Condition → List CondPart
parts_of True = part.Test test.True ∷ []
parts_of (Compare name op literal) = part.Test (test.Compare name op literal) ∷ []
parts_of (And first second) = parts_of first ++ (parts_of second ++ part.Join join.And ∷ [])
parts_of (Or first second) = parts_of first ++ (parts_of second ++ part.Join join.Or ∷ [])

-- the last two of the conditions that were read, the last one first, become one
abbrev pub last_joined : Join → List Condition → List Condition
last_joined join [] = []
last_joined join (only ∷ []) = only ∷ []
last_joined join (second ∷ first ∷ others) = joined join first second ∷ others

-- one part more is read
abbrev pub with_part : CondPart → List Condition → List Condition
with_part (part.Test test) read = condition_of test ∷ read
with_part (part.Join join) read = last_joined join read

abbrev pub read_onto : List Condition → List CondPart → List Condition
read_onto read [] = read
read_onto read (part ∷ parts) = read_onto (with_part part read) parts

abbrev pub first_or_true : List Condition → Condition
first_or_true [] = True
first_or_true (first ∷ others) = first

-- the condition whose parts these are
abbrev pub condition_in : List CondPart → Condition
condition_in parts = first_or_true (read_onto [] parts)
