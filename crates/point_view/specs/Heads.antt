-- What is left of sources of which the first points were looked at?
use Rattle.std.specs.Prelude.{ℤ, List, [], ◌∷◌, map, Option, Some, None, if◌then◌else◌}
use Rattle.std.specs.Ordering.{int_eq}
use Rattle.point_model.specs.Rows.{Row}

-- the head where there is one, and then the rows
abbrev pub with_head : Option Row → List Row → List Row
with_head None rows = rows
with_head (Some row) rows = row ∷ rows

-- the same of each source
abbrev pub with_heads : List (Option Row) → List (List Row) → List (List Row)
with_heads [] sources = sources
with_heads (head ∷ heads) [] = []
with_heads (head ∷ heads) (rows ∷ sources) = with_head head rows ∷ with_heads heads sources

-- the head where it isn't at the time
abbrev pub head_passed : ℤ → Option Row → Option Row
head_passed time None = None
head_passed time (Some row) = if int_eq time row.0 then None else Some row

-- those heads that aren't at the time
abbrev pub heads_passed : ℤ → List (Option Row) → List (Option Row)
heads_passed time heads = map (head_passed time) heads
