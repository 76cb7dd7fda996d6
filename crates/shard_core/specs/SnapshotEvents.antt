-- What do the beginning, the end and the giving up of a snapshot make of the state?
use Rattle.std.specs.Prelude.{◌≡◌, ◌≢◌, ◌⊎◌, ℕ, ◌+◌, ◌≤◌, true, false, List, [], ◌∷◌, ◌++◌, map, Option, Some, None}
use Rattle.point_model.specs.Points.{no_points}
use Rattle.shard_core.specs.Contents.{held}
use Rattle.shard_core.specs.Numbers.{count, times_named, names_of}
use Rattle.shard_core.specs.State.{Core, File, Merge, Snapshot, last_of}

-- The cache becomes the snapshot, with the number of the last entry, and is empty. Its new segment is named by an edit, behind
-- which none is in doubt.
abbrev pub with_snapshot : Core → Core
with_snapshot core = record core {
  snapshot = Some (record { points = core.cache; now = held core.cache; number = last_of core; out = true });
  cache = no_points;
  doubt = None;
  edit = None;
}

-- the job of the snapshot that stands goes out again
abbrev pub with_job : Snapshot → Core → Core
with_job snapshot core = record core { snapshot = Some (record snapshot { out = true }); doubt = None }

-- Where there is no snapshot the cache becomes it; one that stands gets its job again where that is not out.
abbrev pub BeginsSnapshot : Core → Core → Type 0
BeginsSnapshot old new =
    ((old.snapshot ≡ None) × (new ≡ with_snapshot old))
    ⊎ ((snapshot : Snapshot) × (old.snapshot ≡ Some snapshot) × (snapshot.out ≡ false) × (new ≡ with_job snapshot old))

-- the file with all its tombstones on the disk, in the tombstone file that is given for it
abbrev pub name_all : (File → Option ℕ) → File → File
name_all tombs file = record {
  stored = record { no = file.stored.no; generation = file.stored.generation; tomb = tombs file; content = file.now };
  now = file.now;
}

-- the merge with its sources so
abbrev pub name_merge : (File → Option ℕ) → Merge → Merge
name_merge tombs merge = record merge { sources = map (name_all tombs) merge.sources }

-- the file of a snapshot: its points, with the tombstones that they have by now on the disk
abbrev pub snapshot_file : Snapshot → ℕ → Option ℕ → File
snapshot_file snapshot number tomb = record {
  stored = record { no = number; generation = snapshot.number; tomb = tomb; content = snapshot.now };
  now = snapshot.now;
}

-- what a snapshot becomes: a file where it has a point, else none
abbrev pub IsFileOf : Snapshot → List File → Type 0
IsFileOf snapshot made =
    ((snapshot.points ≡ no_points) × (made ≡ []))
    ⊎ ((snapshot.points ≢ no_points) × ((no : ℕ) × (tomb : Option ℕ) × (made ≡ snapshot_file snapshot no tomb ∷ [])))

-- Numbers from outside, that nothing names, come to be named or condemned, and nothing that was named is lost but by condemning it.
pub record Renames (old : Core) (files : List File) (condemned : List ℕ) : Type 0 where
  pub outside : List ℕ
  pub unused : (n : ℕ) → count n outside + times_named old n ≤ 1
  pub moved : (n : ℕ) → count n (names_of files) + count n condemned ≡ count n (names_of old.files) + count n outside

-- the snapshot's file is the newest, all tombstones are on the disk, and the floor is the snapshot's number
abbrev pub without_snapshot : Snapshot → List File → (File → Option ℕ) → List ℕ → Core → Core
without_snapshot snapshot made tombs replaced core = record core {
  files = map (name_all tombs) core.files ++ made;
  snapshot = None;
  merges = map (name_merge tombs) core.merges;
  condemned = replaced ++ core.condemned;
  floor = snapshot.number;
  edit = None;
}

-- The snapshot is the newest file, where it has a point. What the edit replaces, tombstone files and older segments, is condemned.
pub record EndsSnapshot (old new : Core) : Type 0 where
  pub snapshot : Snapshot
  pub stands : old.snapshot ≡ Some snapshot
  pub made : List File
  pub is_made : IsFileOf snapshot made
  pub tombs : File → Option ℕ
  pub replaced : List ℕ
  pub renames : Renames old (map (name_all tombs) old.files ++ made) replaced
  pub same : new ≡ without_snapshot snapshot made tombs replaced old

-- The snapshot stands on without its job; what the job adopted is condemned.
pub record AbandonsSnapshot (old new : Core) : Type 0 where
  pub snapshot : Snapshot
  pub stands : old.snapshot ≡ Some snapshot
  pub out : snapshot.out ≡ true
  pub adopted : List ℕ
  pub unused : (n : ℕ) → count n adopted + times_named old n ≤ 1
  pub same : new ≡ record old { snapshot = Some (record snapshot { out = false }); condemned = adopted ++ old.condemned }
