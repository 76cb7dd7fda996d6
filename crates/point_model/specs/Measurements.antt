-- Which measurement is a series of, and which cells are of one field?
use Rattle.std.specs.Prelude.{ℕ, Bool, false, not, ◌&&◌, ◌==◌, nat_eq, List, [], ◌∷◌, if◌then◌else◌}
use Rattle.std.specs.Cmp.Lexicographic.{pointwise}
use Rattle.tsdb_types.specs.declared.point.Cell.{Cell}

-- the text up to the first comma that no backslash stands before; whether one stands before the text is told
abbrev pub head_behind : Bool → List ℕ → List ℕ
head_behind escaped [] = []
head_behind escaped (byte ∷ text) = if (byte == 44) && not escaped then [] else byte ∷ head_behind (byte == 92) text

-- the measurement of a series, as its text begins with it
abbrev pub measurement_head : List ℕ → List ℕ
measurement_head series = head_behind false series

-- the cells are of one field of one measurement, in whatever series of it
abbrev pub is_same_field : Cell → Cell → Bool
is_same_field a b = pointwise nat_eq (measurement_head a.series) (measurement_head b.series) && pointwise nat_eq a.field b.field
