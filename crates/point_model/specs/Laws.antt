-- Laws of points, of what is live, and of histories.
use Rattle.std.specs.Prelude.{◌≡◌, ◌↔◌, ℕ, ◌++◌, List, map, None, IsTrue, length}
use Rattle.std.specs.Option.{option_or}
use Rattle.std.specs.List.Sorted.{IsStrictlySortedBy}
use Rattle.std.specs.Map.{keys_of}
use Rattle.tsdb_types.specs.Keys.{key_of, IsFirstMark}
use Rattle.tsdb_types.specs.declared.point.Cell.{Cell}
use Rattle.tsdb_types.specs.declared.point.Point.{Point}
use Rattle.point_model.specs.Acceptance.{AgreesWith, IsAccepted, IsStored, Takes}
use Rattle.point_model.specs.Contents.{Content, overlay}
use Rattle.point_model.specs.Contents as contents
use Rattle.point_model.specs.Effects.{applied, effect, effects}
use Rattle.point_model.specs.Points.{Points, cell_cmp, no_points, value_at}
use Rattle.point_model.specs.Measurements.{is_same_field}
use Rattle.point_model.specs.declared.deletion.Deletion.{Deletion}
use Rattle.point_model.specs.declared.entry.Entry.{Entry}
use Rattle.point_model.specs.declared.entry.Entry.TheVariants.{Write}
use Rattle.point_model.specs.Histories.{State, after, after_entry, state_after, AreRegrouped, HaveOneEffect}

-- two histories, one behind the other, leave what the second makes of what the first leaves
pub record HistoriesCompose : Type 0 where
  pub points : (points : Points) (first second : List Entry) → after points (first ++ second) ≡ after (after points first) second
  pub state : (start : State) (first second : List Entry) → state_after start (first ++ second) ≡ state_after (state_after start first) second

-- writes whose points stand in another grouping, where those of each cell keep their order, have one effect
abbrev pub WritesMayBeRegrouped : Type 0
WritesMayBeRegrouped =
    (client other : ℕ) (points others : List Point) → AreRegrouped points others → HaveOneEffect (Write client points) (Write other others)

-- a cell behind a history holds what the last entry that touches it makes of it
pub record EffectsAreTold : Type 0 where
  pub entry : (points : Points) (entry : Entry) (cell : Cell) → value_at (after_entry points entry) cell ≡ applied (effect entry cell) (value_at points cell)
  pub history : (points : Points) (history : List Entry) (cell : Cell) → value_at (after points history) cell ≡ applied (effects history cell) (value_at points cell)
  pub composed : (first second : List Entry) (cell : Cell) → effects (first ++ second) cell ≡ option_or (effects second cell) (effects first cell)

-- what layers show
pub record LayersShow : Type 0 where
  pub composed : (older newer : List Content) (cell : Cell) → overlay (older ++ newer) cell ≡ option_or (overlay newer cell) (overlay older cell)
  -- neighbours may give place to others that show the same
  pub replaced : (before group made behind : List Content) (cell : Cell) → overlay group cell ≡ overlay made cell
      → overlay (before ++ group ++ behind) cell ≡ overlay (before ++ made ++ behind) cell
  -- a deletion that each layer is spared by spares what they show
  pub spared : (deletion : Deletion) (layers : List Content) (cell : Cell) → overlay (map (contents.spared deletion) layers) cell ≡ contents.spared deletion (overlay layers) cell

-- points take a batch exactly where no value that they hold is of another kind than the batch has of its field
abbrev pub AcceptedByValues : Type 0
AcceptedByValues = (points : Points) (written : List Point) → IsStrictlySortedBy cell_cmp (keys_of points) → IsAccepted points written ↔ AgreesWith points written

-- to be of one field is an equivalence
pub record FieldsAreClasses : Type 0 where
  pub itself : (cell : Cell) → IsTrue (is_same_field cell cell)
  pub turned : (a b : Cell) → IsTrue (is_same_field a b) → IsTrue (is_same_field b a)
  pub through : (a b c : Cell) → IsTrue (is_same_field a b) → IsTrue (is_same_field b c) → IsTrue (is_same_field a c)

-- points without a value are none
abbrev pub NoValuesNoPoints : Type 0
NoValuesNoPoints = (points : Points) → ((cell : Cell) → value_at points cell ≡ None) → points ≡ no_points

-- maps of points with the same values are one
abbrev pub ValuesTellPoints : Type 0
ValuesTellPoints =
    (points others : Points) → IsStrictlySortedBy cell_cmp (keys_of points) → IsStrictlySortedBy cell_cmp (keys_of others)
    → ((cell : Cell) → value_at points cell ≡ value_at others cell) → points ≡ others

-- what an entry that is taken leaves of stored points is stored points
abbrev pub EntriesKeepStored : Type 0
EntriesKeepStored = (points : Points) (entry : Entry) → IsStored points → Takes points entry → IsStored (after_entry points entry)

-- the key of a cell's series and field, with its time, tells the cell, where its series ends at the first mark
abbrev pub KeysTellCells : Type 0
KeysTellCells =
    (a b : Cell) → IsFirstMark (key_of a.series a.field) (length a.series) → IsFirstMark (key_of b.series b.field) (length b.series)
    → key_of a.series a.field ≡ key_of b.series b.field → a.time ≡ b.time → a ≡ b
