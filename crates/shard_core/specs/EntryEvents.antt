-- What does an accepted entry make of the state, and one that may be in the log?
use Rattle.std.specs.Prelude.{◌≡◌, ◌⊎◌, ◌↔◌, ℕ, Bool, true, List, [], ◌∷◌, ◌++◌, map, Some, None, option_map}
use Rattle.tsdb_types.specs.declared.point.Point.{Point}
use Rattle.point_model.specs.declared.deletion.Deletion.{Deletion}
use Rattle.point_model.specs.declared.entry.Entry.{Entry}
use Rattle.point_model.specs.declared.entry.Entry.TheVariants.{Write, Delete}
use Rattle.point_model.specs.Acceptance.{Takes}
use Rattle.point_model.specs.Deletions.{without}
use Rattle.point_model.specs.Histories.{with_points}
use Rattle.point_model.specs.Cursors.{HasKey, Key}
use Rattle.point_model.specs.Contents.{overlay, spared}
use Rattle.shard_core.specs.Shown.{contents_of}
use Rattle.shard_core.specs.State.{Core, File, Image, Merge, Snapshot, points_now}

-- the directory with an entry more in its log
abbrev pub image_with : Entry → Image → Image
image_with entry image = record image { entries = image.entries ++ entry ∷ [] }

-- The points go to the cache. The log that an edit in doubt would leave has the entry too.
abbrev pub with_write : ℕ → List Point → (Key → Bool) → Core → Core
with_write client points index core = record core {
  history = core.history ++ Write client points ∷ [];
  cache = with_points core.cache points;
  doubt = None;
  edit = option_map (image_with (Write client points)) core.edit;
  index = index;
}

-- the key of a point
abbrev pub key_of_point : Point → Key
key_of_point point = (point.cell.series, point.cell.field)

-- one of the points is of the key
abbrev pub HasOfKey : Key → List Point → Type 0
HasOfKey key [] = ⊥
HasOfKey key (point ∷ points) = (key_of_point point ≡ key) ⊎ HasOfKey key points

-- A batch that the points accept ends the history. Its points go to the cache, its keys to the index; no entry is in doubt.
pub record Writes (old new : Core) : Type 0 where
  pub client : ℕ
  pub points : List Point
  pub may : Takes (points_now old) (Write client points)
  pub index : Key → Bool
  pub added : (key : Key) → (index key ≡ true) ↔ ((old.index key ≡ true) ⊎ HasOfKey key points)
  pub same : new ≡ with_write client points index old

-- the file without the deleted cells; the disk has them still
abbrev pub cut_file : Deletion → File → File
cut_file deletion file = record file { now = spared deletion file.now }

-- the snapshot without them; its points stay
abbrev pub cut_snapshot : Deletion → Snapshot → Snapshot
cut_snapshot deletion snapshot = record snapshot { now = spared deletion snapshot.now }

-- the sources and the output without the deleted cells
abbrev pub cut_merge : Deletion → Merge → Merge
cut_merge deletion merge = record merge { sources = map (cut_file deletion) merge.sources; now = spared deletion merge.now }

-- the cells leave the cache, and are no longer live in the snapshot, in any file and in any merge
abbrev pub with_delete : ℕ → Deletion → (Key → Bool) → Core → Core
with_delete client deletion index core = record core {
  history = core.history ++ Delete client deletion ∷ [];
  files = map (cut_file deletion) core.files;
  snapshot = option_map (cut_snapshot deletion) core.snapshot;
  cache = without core.cache deletion;
  merges = map (cut_merge deletion) core.merges;
  doubt = None;
  edit = option_map (image_with (Delete client deletion)) core.edit;
  index = index;
}

-- The deletion ends the history. Its cells leave cache, snapshot, files and merges; keys that no content has any more leave the
-- index; no entry is in doubt.
pub record Deletes (old new : Core) : Type 0 where
  pub client : ℕ
  pub deletion : Deletion
  pub index : Key → Bool
  pub left : (key : Key) → (index key ≡ true)
      ↔ ((old.index key ≡ true) × HasKey (overlay (contents_of (with_delete client deletion index old))) key)
  pub same : new ≡ with_delete client deletion index old

-- an entry that the points take may be in the log, or not
pub record DoubtsEntry (old new : Core) : Type 0 where
  pub entry : Entry
  pub may : Takes (points_now old) entry
  pub same : new ≡ record old { doubt = Some entry }

-- no entry is in doubt
abbrev pub EndsEntryDoubt : Core → Core → Type 0
EndsEntryDoubt old new = new ≡ record old { doubt = None }
