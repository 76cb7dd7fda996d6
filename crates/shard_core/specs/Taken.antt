-- Which entries does a content take, and can those of a log be read again?
use Rattle.std.specs.Prelude.{◌≡◌, List, [], ◌∷◌, map, Contains, Some, IsTrue, ⊤}
use Rattle.tsdb_types.specs.declared.point.Cell.{Cell}
use Rattle.tsdb_types.specs.declared.point.Point.{Point}
use Rattle.tsdb_types.specs.declared.value.Value.{Value}
use Rattle.tsdb_types.specs.Values.{kind_of}
use Rattle.point_model.specs.declared.entry.Entry.{Entry}
use Rattle.point_model.specs.declared.entry.Entry.TheVariants.{Write, Delete}
use Rattle.point_model.specs.Acceptance.{HasOneKind}
use Rattle.point_model.specs.Measurements.{is_same_field}
use Rattle.point_model.specs.Contents.{Content, overlay}
use Rattle.shard_core.specs.Contents.{held}
use Rattle.point_model.specs.Contents.{acted}
use Rattle.shard_core.specs.Contents.{left}
use Rattle.shard_core.specs.Files.{content_in, on_disk}
use Rattle.shard_core.specs.Shown.{image_of}
use Rattle.shard_core.specs.State.{Core, Image, points_now}
use Rattle.shard_core.specs.Kinds.{OneKind}

-- Each field of the batch that the content has, has the batch's kind there; and the batch has one kind for each field.
pub record AcceptsFields (content : Content) (batch : List Point) : Type 0 where
  pub accepted : (cell : Cell) (value : Value) → content cell ≡ Some value → (point : Point) → Contains batch point
      → IsTrue (is_same_field cell point.cell) → kind_of value ≡ kind_of point.value
  pub one_kind : HasOneKind batch

-- a batch that the content accepts, or a deletion
abbrev pub Admits : Content → Entry → Type 0
Admits content (Write client batch) = AcceptsFields content batch
Admits content (Delete client deletion) = ⊤

-- each entry is admitted by what those before it leave
abbrev pub AdmitsAll : Content → List Entry → Type 0
AdmitsAll content [] = ⊤
AdmitsAll content (entry ∷ entries) = Admits content entry × AdmitsAll (acted entry content) entries

-- where the first has a cell the second has it too, with a value of the same kind
abbrev pub Below : Content → Content → Type 0
Below first second = (cell : Cell) (value : Value) → first cell ≡ Some value
    → (other : Value) × (second cell ≡ Some other) × (kind_of other ≡ kind_of value)

-- There is a content that admits the entries past the floor and becomes the points by them, and the files on the disk are below it.
pub record EntriesTaken (core : Core) : Type 0 where
  pub base : Content
  pub takes : AdmitsAll base (image_of core).entries
  pub below : Below (overlay (map on_disk core.files)) base
  pub leads : (cell : Cell) → left (image_of core).entries base cell ≡ held (points_now core) cell

-- The files of a directory have one kind for each field, and its log can be read again.
pub record IsReadableImage (image : Image) : Type 0 where
  pub kinds : OneKind (map content_in image.files)
  pub takes : AdmitsAll (overlay (map content_in image.files)) image.entries

-- What is in doubt could be read again: the directory that an edit would leave, and the entry behind the history.
pub record DoubtsTaken (core : Core) : Type 0 where
  pub edit : (image : Image) → core.edit ≡ Some image → IsReadableImage image
  pub entry : (entry : Entry) → core.doubt ≡ Some entry → Admits (held (points_now core)) entry
