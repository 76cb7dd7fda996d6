-- What is the state of the engine, as plain data?
use Rattle.std.specs.Prelude.{ℕ, ◌+◌, Bool, List, [], length, Option}
use Rattle.point_model.specs.declared.entry.Entry.{Entry}
use Rattle.point_model.specs.Histories.{State, after}
use Rattle.point_model.specs.Cursors.{Key}
use Rattle.point_model.specs.Points.{Points}
use Rattle.point_model.specs.Contents.{Content}

-- A file as the disk has it: its number, its generation, its tombstone file, and what is live in it under these tombstones.
pub record StoredFile : Type 0 where
  pub no : ℕ
  pub generation : ℕ
  pub tomb : Option ℕ
  pub content : Content

-- A file as the disk has it, and what is live in it now: memory may have further tombstones.
pub record File : Type 0 where
  pub stored : StoredFile
  pub now : Content

-- A cache on its way to a file: its points, what is live of them now, the number of its last entry, and whether its job is out.
pub record Snapshot : Type 0 where
  pub points : Points
  pub now : Content
  pub number : ℕ
  pub out : Bool

-- A merge on its way: its sources as they are now, its output, and what is live of it under the tombstones since its beginning.
pub record Merge : Type 0 where
  pub sources : List File
  pub output : Points
  pub now : Content

-- What one query sees: the number of the last entry in it, the contents of its beginning, oldest first, and the files that it holds.
pub record View : Type 0 where
  pub number : ℕ
  pub contents : List Content
  pub held : List ℕ

-- What a directory has: its files, oldest first, its floor, and the entries of its log past the floor.
pub record Image : Type 0 where
  pub files : List StoredFile
  pub floor : ℕ
  pub entries : List Entry

-- a directory without files and entries
abbrev pub empty_image : Image
empty_image = record { files = []; floor = 0; entries = [] }

-- The points and the number at opening, the floor then, the entries that the directory had past it, and those since. Files, oldest
-- first; the entry and the edit that may have been made, the edit as the directory that it leaves; index and stored index as sets.
pub record Core : Type 0 where
  pub start : State
  pub origin : ℕ
  pub past : List Entry
  pub history : List Entry
  pub files : List File
  pub snapshot : Option Snapshot
  pub cache : Points
  pub merges : List Merge
  pub views : List View
  pub condemned : List ℕ
  pub holds : ℕ → ℕ
  pub floor : ℕ
  pub doubt : Option Entry
  pub edit : Option Image
  pub index : Key → Bool
  pub stored : Key → Bool

-- the points after the history
abbrev pub points_now : Core → Points
points_now core = after core.start.points core.history

-- the number of the last entry
abbrev pub last_of : Core → ℕ
last_of core = core.start.number + length core.history
