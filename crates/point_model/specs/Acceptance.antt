-- When do the points take a batch, and with what is it in conflict where they don't?
use Rattle.std.specs.Prelude.{◌≡◌, ⊤, ℕ, ◌≤◌, Bool, true, false, not, ◌&&◌, IsTrue, List, [], ◌∷◌, length, All, Contains, Option, Some, None, if◌then◌else◌}
use Rattle.std.specs.List.Sorted.{IsStrictlySortedBy}
use Rattle.std.specs.Map.{keys_of}
use Rattle.tsdb_types.specs.Keys.{key_of, IsFirstMark}
use Rattle.tsdb_types.specs.Moments.{IsMoment}
use Rattle.tsdb_types.specs.Names.{IsName}
use Rattle.tsdb_types.specs.Series.{IsSeriesText}
use Rattle.tsdb_types.specs.Values.{kind_of}
use Rattle.tsdb_types.specs.declared.point.Cell.{Cell}
use Rattle.tsdb_types.specs.declared.point.Point.{Point}
use Rattle.tsdb_types.specs.declared.value.Value.{Value}
use Rattle.tsdb_types.specs.declared.value.Kind.{Kind}
use Rattle.tsdb_types.specs.declared.value.Kind.TheVariants.{Integer, Unsigned, Boolean}
use Rattle.point_model.specs.declared.entry.Entry.{Entry}
use Rattle.point_model.specs.declared.entry.Entry.TheVariants.{Write, Delete}
use Rattle.point_model.specs.Points.{Points, cell_cmp, value_at}
use Rattle.point_model.specs.Measurements.{is_same_field}
use Rattle.point_model.specs.Sizes.{most_bytes, write_length}

abbrev pub is_same_kind : Kind → Kind → Bool
is_same_kind Integer Integer = true
is_same_kind Integer Unsigned = false
is_same_kind Integer Boolean = false
is_same_kind Unsigned Integer = false
is_same_kind Unsigned Unsigned = true
is_same_kind Unsigned Boolean = false
is_same_kind Boolean Integer = false
is_same_kind Boolean Unsigned = false
is_same_kind Boolean Boolean = true

-- a field whose values have this kind, and not that of a point which was to be written
pub record Conflict : Type 0 where
  pub field : List ℕ
  pub held : Kind

-- the kind of the first cell of the point's field whose kind isn't the point's
abbrev pub other_kind : Points → Point → Option Kind
other_kind [] point = None
other_kind (stored ∷ points) point =
    if is_same_field point.cell stored.0 && not (is_same_kind (kind_of stored.1) (kind_of point.value)) then Some (kind_of stored.1)
    else other_kind points point

-- the point is in conflict with this kind, or the points behind it are in this conflict
abbrev pub conflict_before : Point → Option Kind → Option Conflict → Option Conflict
conflict_before point (Some held) behind = Some (record { field = point.cell.field; held = held })
conflict_before point None behind = behind

-- The first point whose field has, within its measurement, a cell of another kind, with that kind. Where there is none
-- the batch is accepted.
abbrev pub conflict : Points → List Point → Option Conflict
conflict stored [] = None
conflict stored (point ∷ points) = conflict_before point (other_kind stored point) (conflict stored points)

abbrev pub IsAccepted : Points → List Point → Type 0
IsAccepted stored points = conflict stored points ≡ None

-- The points are a map, with its cells in order, and each field of a measurement has one kind.
pub record IsSound (points : Points) : Type 0 where
  pub ordered : IsStrictlySortedBy cell_cmp (keys_of points)
  pub one_kind : (a b : Cell) (v w : Value) → value_at points a ≡ Some v → value_at points b ≡ Some w → IsTrue (is_same_field a b) → kind_of v ≡ kind_of w

-- each value that these points hold of a field that the batch has is of the kind that the batch has of it
abbrev pub AgreesWith : Points → List Point → Type 0
AgreesWith stored points =
    (cell : Cell) (value : Value) → value_at stored cell ≡ Some value → (point : Point) → Contains points point → IsTrue (is_same_field cell point.cell)
    → kind_of value ≡ kind_of point.value

-- the key of the point's series and field isn't too long, and its series ends at its first mark
pub record IsKeyed (point : Point) : Type 0 where
  pub fits : length (key_of point.cell.series point.cell.field) ≤ 65535
  pub marked : IsFirstMark (key_of point.cell.series point.cell.field) (length point.cell.series)

-- each field of a measurement has one kind in the batch
abbrev pub HasOneKind : List Point → Type 0
HasOneKind points =
    (a b : Point) → Contains points a → Contains points b → IsTrue (is_same_field a.cell b.cell) → kind_of a.value ≡ kind_of b.value

-- What a batch has that may be handed to a store: each field of a measurement has one kind in it, its keys are keys, and a record
-- of a log has room for it.
pub record IsWritable (points : List Point) : Type 0 where
  pub one_kind : HasOneKind points
  pub keyed : All IsKeyed points
  pub fits : write_length points ≤ most_bytes

-- the time is a moment, the series a series' text and the field a name
pub record IsCell (cell : Cell) : Type 0 where
  pub time : IsMoment cell.time
  pub series : IsSeriesText cell.series
  pub field : IsName cell.field

-- points that are a map, with one kind for each field, and whose cells are cells
pub record IsStored (points : Points) : Type 0 where
  pub sound : IsSound points
  pub cells : All (λ point. IsCell point.0) points

-- the points accept the entry, a batch with one kind for each field, whose cells are cells
abbrev pub Takes : Points → Entry → Type 0
Takes points (Write client written) = IsAccepted points written × HasOneKind written × All (λ point. IsCell point.cell) written
Takes points (Delete client deletion) = ⊤
