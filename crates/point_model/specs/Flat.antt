-- How does a condition stand in a list: each `and` and `or` before its two sides. How is such a list read, and how is it met?
use Rattle.std.specs.Prelude.{◌≡◌, ℕ, zero, suc, Bool, true, false, not, ◌&&◌, ◌||◌, List, [], ◌∷◌, ◌++◌, map, reverse, Option, Some, None, if◌then◌else◌}
use Rattle.point_model.specs.Conditions.{Condition, True, Eq, Ne, And, Or, meets}
use Rattle.point_model.specs.declared.part.Join.{Join}
use Rattle.point_model.specs.declared.part.Join.TheVariants as join
use Rattle.point_model.specs.declared.part.Part.{Part}
use Rattle.point_model.specs.declared.part.Part.TheVariants as part
use Rattle.point_model.specs.declared.part.TagTest.{TagTest}
use Rattle.point_model.specs.declared.part.TagTest.TheVariants as test

-- the condition of one comparison
abbrev pub condition_of : TagTest → Condition
condition_of test.True = True
condition_of (test.Eq key text) = Eq key text
condition_of (test.Ne key text) = Ne key text

abbrev pub joined : Join → Condition → Condition → Condition
joined join.And first second = And first second
joined join.Or first second = Or first second

-- The parts of a condition, each join before its two sides. With each part stands the join whose second side begins with it.
abbrev pub parts_of : Option Join → Condition → List (Option Join × Part)
parts_of of True = (of, part.Test test.True) ∷ []
parts_of of (Eq key text) = (of, part.Test (test.Eq key text)) ∷ []
parts_of of (Ne key text) = (of, part.Test (test.Ne key text)) ∷ []
parts_of of (And first second) = (of, part.Join join.And) ∷ (parts_of None first ++ parts_of (Some join.And) second)
parts_of of (Or first second) = (of, part.Join join.Or) ∷ (parts_of None first ++ parts_of (Some join.Or) second)

-- a join whose first side is read, or whose second one is, where the first was read
pub data Side : Type 0 where
  First : Join → Side
  Second : Join → Condition → Side

-- a condition that is being read: the sides that are open around the place, the innermost first, or the condition when it is whole
pub record Reading : Type 0 where
  pub sides : List Side
  pub whole : Option Condition

-- nothing is read yet
abbrev pub unread : Reading
unread = record { sides = []; whole = None }

-- a condition stands at the innermost side, and what that makes whole at the sides around it
abbrev pub closed : Condition → List Side → Reading
closed condition [] = record { sides = []; whole = Some condition }
closed condition (First join ∷ sides) = record { sides = Second join condition ∷ sides; whole = None }
closed condition (Second join first ∷ sides) = closed (joined join first condition) sides

-- one part more is read
abbrev pub with_part : Part → Reading → Reading
with_part (part.Test test) reading = closed (condition_of test) reading.sides
with_part (part.Join join) reading = record { sides = First join ∷ reading.sides; whole = None }

abbrev pub read_from : Reading → List (Option Join × Part) → Reading
read_from reading [] = reading
read_from reading (first ∷ parts) = read_from (with_part first.1 reading) parts

abbrev pub or_true : Option Condition → Condition
or_true None = True
or_true (Some condition) = condition

-- the condition whose parts these are
abbrev pub condition_in : List (Option Join × Part) → Condition
condition_in parts = or_true (read_from unread parts).whole

-- the join of which the next part begins the second side
abbrev pub next_of : List Side → Option Join
next_of [] = None
next_of (First join ∷ sides) = None
next_of (Second join condition ∷ sides) = Some join

-- the parts that were read of a condition with these open sides
abbrev pub parts_before : List Side → List (Option Join × Part)
parts_before [] = []
parts_before (First join ∷ sides) = parts_before sides ++ (next_of sides, part.Join join) ∷ []
parts_before (Second join first ∷ sides) = parts_before sides ++ (next_of sides, part.Join join) ∷ parts_of None first

-- the parts that were read
abbrev pub parts_read : Reading → List (Option Join × Part)
parts_read reading = by reading.whole
  where
    by : Option Condition → List (Option Join × Part)
    by None = parts_before reading.sides
    by (Some condition) = parts_of None condition

-- an open side: the join whose first side it is, or none for a second side
abbrev pub open_of : Side → Option Join
open_of (First join) = Some join
open_of (Second join first) = None

-- which sides are open when the innermost one is closed
abbrev pub left_open : List (Option Join) → List (Option Join)
left_open [] = []
left_open (Some join ∷ sides) = None ∷ sides
left_open (None ∷ sides) = left_open sides

-- the join of the side that the closing leaves as the innermost
abbrev pub begun : List (Option Join) → Option Join
begun [] = None
begun (Some join ∷ sides) = Some join
begun (None ∷ sides) = begun sides

-- These are the parts that were read, none of which made it whole, the sides that are open, the innermost last, and the join whose
-- second side comes next.
pub record IsReading (reading : Reading) (parts : List (Option Join × Part)) (open_sides : List (Option Join)) (next : Option Join) : Type 0 where
  pub part : reading.whole ≡ None
  pub read : parts ≡ parts_before reading.sides
  pub sides : reverse open_sides ≡ map open_of reading.sides
  pub begins : next ≡ next_of reading.sides

-- the answer of the first side decides the join
abbrev pub decides : Option Join → Bool → Bool
decides None met = false
decides (Some join.And) met = not met
decides (Some join.Or) met = met

-- An answer, and how many sides whose answer counts no more are still to be passed.
abbrev pub Walk : Type 0
Walk = Bool × ℕ

-- past one part of a side that counts no more
abbrev pub passed : ℕ → Part → ℕ
passed more (part.Test test) = more
passed more (part.Join join) = suc (suc more)

-- the answer at a part of a side that counts
abbrev pub answered : List ℕ → Bool → Part → Bool
answered series met (part.Test test) = meets (condition_of test) series
answered series met (part.Join join) = met

abbrev pub step : List ℕ → Walk → Option Join × Part → Walk
step series (met, suc more) part = (met, passed more part.1)
step series (met, zero) part = if decides part.0 met then (met, passed 0 part.1) else (answered series met part.1, 0)

-- the parts are passed one after another
abbrev pub walk : List ℕ → Walk → List (Option Join × Part) → Walk
walk series at [] = at
walk series at (part ∷ parts) = walk series (step series at part) parts
