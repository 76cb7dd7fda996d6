-- What the points of a database are: a finite map from cells to values.
use Rattle.std.specs.Prelude.{Bool, List, [], Option}
use Rattle.std.specs.declared.cmp.Ordering.{Ordering}
use Rattle.std.specs.Ordering.{nat_cmp, int_cmp, ordering_then}
use Rattle.std.specs.Cmp.Lexicographic.{slice_cmp}
use Rattle.std.specs.BTreeMap.{insert_entry, is_at}
use Rattle.std.specs.Map.{lookup}
use Rattle.tsdb_types.specs.declared.point.Cell.{Cell}
use Rattle.tsdb_types.specs.declared.point.Point.{Point}
use Rattle.tsdb_types.specs.declared.value.Value.{Value}

-- by time, then by the text of the series, then by field
abbrev pub cell_cmp : Cell → Cell → Ordering
cell_cmp a b = ordering_then (ordering_then (int_cmp a.time b.time) (slice_cmp nat_cmp a.series b.series)) (slice_cmp nat_cmp a.field b.field)

-- the cells in their order, each once and with its value
abbrev pub Points : Type 0
Points = List (Cell × Value)

abbrev pub no_points : Points
no_points = []

-- the points with this one set: it takes the place of an older value of its cell
abbrev pub with_point : Points → Point → Points
with_point points point = insert_entry cell_cmp points point.cell point.value

-- the value at a cell
abbrev pub value_at : Points → Cell → Option Value
value_at points cell = lookup (is_at (cell_cmp cell)) points

-- the cells are one
abbrev pub is_same_cell : Cell → Cell → Bool
is_same_cell cell = is_at (cell_cmp cell)
