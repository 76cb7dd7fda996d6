-- What may a crash leave, and what does opening make of it?
use Rattle.std.specs.Prelude.{◌≡◌, ◌⊎◌, ◌+◌, Bool, if◌then◌else◌, List, [], ◌∷◌, length, map, Some, None}
use Rattle.tsdb_types.specs.declared.point.Cell.{Cell}
use Rattle.point_model.specs.declared.entry.Entry.{Entry}
use Rattle.point_model.specs.Histories.{after}
use Rattle.point_model.specs.Cursors.{Key}
use Rattle.point_model.specs.Points.{Points, no_points, value_at}
use Rattle.point_model.specs.Effects.{is_deleted_by}
use Rattle.shard_core.specs.EntryEvents.{image_with}
use Rattle.shard_core.specs.Images.{image_value}
use Rattle.shard_core.specs.Invariant.{IsIndex}
use Rattle.shard_core.specs.Shown.{image_of}
use Rattle.shard_core.specs.State.{Core, File, Image, StoredFile}

-- the directory where nothing was in doubt, or the one that an edit in doubt would leave
abbrev pub Images : Core → Image → Type 0
Images core image = (image ≡ image_of core) ⊎ (core.edit ≡ Some image)

-- What a crash may leave: such a directory, or one with the entry in doubt in its log. The list tells this entry, or is empty.
abbrev pub MayLeave : Core → List Entry → Image → Type 0
MayLeave core more image =
    ((more ≡ []) × Images core image)
    ⊎ ((entry : Entry) × (core.doubt ≡ Some entry) × (more ≡ entry ∷ [])
    × ((before : Image) × Images core before × (image ≡ image_with entry before)))

-- a file of the directory under the deletions of its log
abbrev pub opened_file : List Entry → StoredFile → File
opened_file entries stored = record { stored = stored; now = λ cell. if is_deleted_by entries cell then None else stored.content cell }

-- the directory with its log read again: the cache is what the entries past the floor leave on no points
abbrev pub opened : Image → Points → (Key → Bool) → (Key → Bool) → Core
opened image points index stored = record {
  start = record { points = points; number = image.floor + length image.entries };
  origin = image.floor;
  past = image.entries;
  history = [];
  files = map (opened_file image.entries) image.files;
  snapshot = None;
  cache = after no_points image.entries;
  merges = [];
  views = [];
  condemned = [];
  holds = λ n. 0;
  floor = image.floor;
  doubt = None;
  edit = None;
  index = index;
  stored = stored;
}

-- The state begins with the points that the directory stands for, and with their keys as the index, whatever index was stored.
pub record OpensDirectory (image : Image) (new : Core) : Type 0 where
  pub points : Points
  pub are : (cell : Cell) → value_at points cell ≡ image_value image cell
  pub index : Key → Bool
  pub stored : Key → Bool
  pub is_index : IsIndex points index
  pub same : new ≡ opened image points index stored

-- a crash, and the opening of a directory that it may leave
pub record CrashesAndOpens (old new : Core) : Type 0 where
  pub more : List Entry
  pub image : Image
  pub left : MayLeave old more image
  pub opens : OpensDirectory image new
