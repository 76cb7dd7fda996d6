-- What a history of entries makes of the points.
use Rattle.std.specs.Prelude.{◌≡◌, ℕ, ◌+◌, List, [], ◌∷◌, length, filter}
use Rattle.std.specs.List.Sorted.{IsStrictlySortedBy}
use Rattle.std.specs.Map.{keys_of}
use Rattle.tsdb_types.specs.declared.point.Cell.{Cell}
use Rattle.tsdb_types.specs.declared.point.Point.{Point}
use Rattle.point_model.specs.declared.entry.Entry.{Entry}
use Rattle.point_model.specs.declared.entry.Entry.TheVariants.{Write, Delete}
use Rattle.point_model.specs.Deletions.{without}
use Rattle.point_model.specs.Points.{Points, cell_cmp, is_same_cell, no_points, with_point}

-- the points are set in order, so the later of two with one cell wins
abbrev pub with_points : Points → List Point → Points
with_points stored [] = stored
with_points stored (point ∷ points) = with_points (with_point stored point) points

-- a write sets its points, a deletion takes its cells away
abbrev pub after_entry : Points → Entry → Points
after_entry points (Write client written) = with_points points written
after_entry points (Delete client deletion) = without points deletion

-- they do the same to every map of points
abbrev pub HaveOneEffect : Entry → Entry → Type 0
HaveOneEffect a b = (points : Points) → IsStrictlySortedBy cell_cmp (keys_of points) → after_entry points a ≡ after_entry points b

-- each cell has the same points in both, in the same order
abbrev pub AreRegrouped : List Point → List Point → Type 0
AreRegrouped points others =
    (cell : Cell) → filter (λ point. is_same_cell cell point.cell) points ≡ filter (λ point. is_same_cell cell point.cell) others

-- what the entries of a history, in their order, leave of these points
abbrev pub after : Points → List Entry → Points
after points [] = points
after points (entry ∷ entries) = after (after_entry points entry) entries

-- the points at a moment, and the number of the last entry before it
pub record State : Type 0 where
  pub points : Points
  pub number : ℕ

-- no points, and no entry yet
abbrev pub nothing : State
nothing = record { points = no_points; number = 0 }

-- each entry of the history takes the next number
abbrev pub state_after : State → List Entry → State
state_after start history = record { points = after start.points history; number = start.number + length history }
