-- What does an entry, and what does a history, make of one cell?
use Rattle.std.specs.Prelude.{Bool, false, ◌||◌, List, [], ◌∷◌, Option, Some, None, if◌then◌else◌}
use Rattle.std.specs.Option.{option_or}
use Rattle.tsdb_types.specs.declared.point.Cell.{Cell}
use Rattle.tsdb_types.specs.declared.point.Point.{Point}
use Rattle.tsdb_types.specs.declared.value.Value.{Value}
use Rattle.point_model.specs.declared.entry.Entry.{Entry}
use Rattle.point_model.specs.declared.entry.Entry.TheVariants.{Write, Delete}
use Rattle.point_model.specs.Deletions.{is_deleted}
use Rattle.point_model.specs.Points.{is_same_cell}

-- what becomes of a cell: what it holds then, or none where it isn't touched
abbrev pub Effect : Type 0
Effect = Option (Option Value)

abbrev pub applied : Effect → Option Value → Option Value
applied None was = was
applied (Some now) was = now

-- a point sets its own cell
abbrev pub set_by : Point → Cell → Effect
set_by point cell = if is_same_cell point.cell cell then Some (Some point.value) else None

-- the last of the points that has the cell sets it
abbrev pub written : List Point → Cell → Effect
written [] cell = None
written (point ∷ points) cell = option_or (written points cell) (set_by point cell)

-- a write sets its cells, a deletion empties those that it takes away
abbrev pub effect : Entry → Cell → Effect
effect (Write client points) cell = written points cell
effect (Delete client deletion) cell = if is_deleted deletion cell then Some None else None

-- the last entry that touches the cell decides
abbrev pub effects : List Entry → Cell → Effect
effects [] cell = None
effects (entry ∷ entries) cell = option_or (effects entries cell) (effect entry cell)

-- a deletion among the entries takes the cell away
abbrev pub is_deleted_by : List Entry → Cell → Bool
is_deleted_by [] cell = false
is_deleted_by (Write client points ∷ entries) cell = is_deleted_by entries cell
is_deleted_by (Delete client deletion ∷ entries) cell = is_deleted deletion cell || is_deleted_by entries cell
