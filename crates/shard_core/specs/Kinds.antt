-- Which kinds do the live cells of all contents have?
use Rattle.std.specs.Prelude.{◌≡◌, ◌⊎◌, List, [], ◌∷◌, map, Some, IsTrue}
use Rattle.tsdb_types.specs.declared.point.Cell.{Cell}
use Rattle.tsdb_types.specs.declared.value.Value.{Value}
use Rattle.tsdb_types.specs.Values.{kind_of}
use Rattle.point_model.specs.Measurements.{is_same_field}
use Rattle.point_model.specs.Contents.{Content}
use Rattle.shard_core.specs.Files.{on_disk}
use Rattle.shard_core.specs.Shown.{contents_of}
use Rattle.shard_core.specs.State.{Core}

-- one of the contents has the cell with this value, hidden by a newer one or not
abbrev pub HasLive : List Content → Cell → Value → Type 0
HasLive [] cell value = ⊥
HasLive (content ∷ contents) cell value = (content cell ≡ Some value) ⊎ HasLive contents cell value

-- the live cells of one field of a measurement have one kind, in whatever contents they are
abbrev pub OneKind : List Content → Type 0
OneKind contents = (a b : Cell) (v w : Value) → HasLive contents a v → HasLive contents b w → IsTrue (is_same_field a b) → kind_of v ≡ kind_of w

-- One kind for each field in memory, and one in the files as the disk has them: these may have cells that memory has no more.
pub record KindsAgree (core : Core) : Type 0 where
  pub now : OneKind (contents_of core)
  pub disk : OneKind (map on_disk core.files)
