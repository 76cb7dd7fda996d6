-- What do the parts of a condition make of the lists of their sides, from the last part to the first?
use Rattle.std.specs.Prelude.{◌≡◌, ℕ, List, [], ◌∷◌, ◌++◌, Option}
use Rattle.std.specs.declared.vec.Vec.{Vec}
use Rattle.std.specs.declared.alloc.Global.{Global}
use Rattle.point_model.specs.Conditions.{Condition}
use Rattle.point_model.specs.Flat.{condition_of, joined}
use Rattle.point_model.specs.declared.part.Join.{Join}
use Rattle.point_model.specs.declared.part.Part.{Part}
use Rattle.point_model.specs.declared.part.Part.TheVariants as part
use Rattle.series_index.specs.Matching.{matching}

-- the two conditions that were read last become one
abbrev pub with_join : Join → List Condition → List Condition
with_join join [] = []
with_join join (first ∷ []) = []
with_join join (first ∷ second ∷ waiting) = joined join first second ∷ waiting

-- a test is a condition, and a join makes one of the two that were read last
abbrev pub with_part : Part → List Condition → List Condition
with_part (part.Test test) waiting = condition_of test ∷ waiting
with_part (part.Join join) waiting = with_join join waiting

-- the conditions that these parts are
abbrev pub conditions_in : List (Option Join × Part) → List Condition
conditions_in [] = []
conditions_in (first ∷ parts) = with_part first.1 (conditions_in parts)

-- the lists are those of the ids whose series meet these conditions, the first condition's list last
abbrev pub AreLists : (ℕ → List ℕ) → List ℕ → List Condition → List (Vec ℕ Global) → Type 0
AreLists series_of ids [] lists = lists ≡ []
AreLists series_of ids (condition ∷ conditions) lists =
    (before : List (Vec ℕ Global)) × (last : Vec ℕ Global) × (lists ≡ before ++ last ∷ []) × (last.items ≡ matching series_of condition ids)
    × AreLists series_of ids conditions before
