-- What do edits of the directory make of the state that end no snapshot and no merge, and edits in doubt?
use Rattle.std.specs.Prelude.{◌≡◌, ◌⊎◌, ℕ, ◌+◌, ◌≤◌, Bool, if◌then◌else◌, List, ◌++◌, map, Option, Some, None}
use Rattle.point_model.specs.Cursors.{Key}
use Rattle.shard_core.specs.MergeEvents.{EndsMerge}
use Rattle.shard_core.specs.Numbers.{count, times_named}
use Rattle.shard_core.specs.SnapshotEvents.{EndsSnapshot, Renames, name_all}
use Rattle.shard_core.specs.Shown.{image_of}
use Rattle.shard_core.specs.State.{Core, File, Merge}

-- a chosen file has all its tombstones on the disk
abbrev pub name_some : (File → Bool) → (File → Option ℕ) → File → File
name_some chosen tombs file = if chosen file then name_all tombs file else file

-- the merge with its sources so
abbrev pub name_sources : (File → Bool) → (File → Option ℕ) → Merge → Merge
name_sources chosen tombs merge = record merge { sources = map (name_some chosen tombs) merge.sources }

-- A record that changes no point: some files' tombstones are on the disk, and the tombstone files that they replace condemned; or
-- a segment was added or forgotten. Behind it no edit is in doubt.
pub record RecordsFiles (old new : Core) : Type 0 where
  pub chosen : File → Bool
  pub tombs : File → Option ℕ
  pub replaced : List ℕ
  pub renames : Renames old (map (name_some chosen tombs) old.files) replaced
  pub same : new ≡ record old {
    files = map (name_some chosen tombs) old.files;
    merges = map (name_sources chosen tombs) old.merges;
    condemned = replaced ++ old.condemned;
    edit = None;
  }

-- What an edit would make: of the end of a snapshot or of a merge, or a record; one that names a segment or an index file leaves
-- files, floor and entries.
abbrev pub WouldMake : Core → Core → Type 0
WouldMake old would = EndsSnapshot old would ⊎ (EndsMerge old would ⊎ (RecordsFiles old would ⊎ (would ≡ old)))

-- such an edit may have been made, or not
pub record DoubtsEdit (old new : Core) : Type 0 where
  pub would : Core
  pub made : WouldMake old would
  pub same : new ≡ record old { edit = Some (image_of would) }

-- no edit is in doubt
abbrev pub SettlesEdit : Core → Core → Type 0
SettlesEdit old new = new ≡ record old { edit = None }

-- each key is stored as it was, or as the index has it: some of the pending changes are stored
pub record StoresChanges (old new : Core) : Type 0 where
  pub stored : Key → Bool
  pub changes : (key : Key) → (stored key ≡ old.stored key) ⊎ (stored key ≡ old.index key)
  pub same : new ≡ record old { stored = stored }

-- the stored index is the index
abbrev pub StoresIndex : Core → Core → Type 0
StoresIndex old new = new ≡ record old { stored = old.index }

-- The stored index is the index, in an index file that replaces the one before and its log; both are condemned.
pub record CompactsIndex (old new : Core) : Type 0 where
  pub replaced : List ℕ
  pub unused : (n : ℕ) → count n replaced + times_named old n ≤ 1
  pub same : new ≡ record old { stored = old.index; condemned = replaced ++ old.condemned; edit = None }
