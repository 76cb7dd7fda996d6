-- Which entries are in the files, in the snapshot and in the cache, and what of files the disk doesn't have yet?
use Rattle.std.specs.Prelude.{◌≡◌, ℕ, ◌+◌, Bool, true, false, List, [], ◌++◌, length, Option, Some, None}
use Rattle.std.specs.List.{AllByRecursion}
use Rattle.tsdb_types.specs.declared.point.Cell.{Cell}
use Rattle.point_model.specs.declared.entry.Entry.{Entry}
use Rattle.point_model.specs.Points.{value_at}
use Rattle.point_model.specs.Contents.{Content}
use Rattle.shard_core.specs.Contents.{held}
use Rattle.point_model.specs.Effects.{applied, effects, is_deleted_by}
use Rattle.shard_core.specs.State.{Core, File, Snapshot}

-- The cells that these deletions take away aren't live; every other cell is as before.
pub record IsCutBy (deleted : Cell → Bool) (before now : Content) : Type 0 where
  pub hidden : (cell : Cell) → deleted cell ≡ true → now cell ≡ None
  pub kept : (cell : Cell) → deleted cell ≡ false → now cell ≡ before cell

-- a file is as the disk has it, under the deletions of these entries
abbrev pub FileIsCut : List Entry → File → Type 0
FileIsCut entries file = IsCutBy (is_deleted_by entries) file.stored.content file.now

-- The snapshot has what the first entries leave on no points, under the deletions of the second ones; its number is that of the
-- last of the first.
pub record SnapshotIs (floor : ℕ) (first second : List Entry) (snapshot : Snapshot) : Type 0 where
  pub points : (cell : Cell) → value_at snapshot.points cell ≡ applied (effects first cell) None
  pub follows : IsCutBy (is_deleted_by second) (held snapshot.points) snapshot.now
  pub counted : snapshot.number ≡ floor + length first

-- where there is no snapshot there are no first entries
abbrev pub IfSnapshotIs : ℕ → List Entry → List Entry → Option Snapshot → Type 0
IfSnapshotIs floor first second None = first ≡ []
IfSnapshotIs floor first second (Some snapshot) = SnapshotIs floor first second snapshot

-- The entries since the floor at opening are, in order, those settled in files, those of the snapshot and those of the cache. The
-- cache is what its entries leave on no points; files are as the disk has them, under the deletions past the floor.
pub record StandsInParts (core : Core) : Type 0 where
  pub settled : List Entry
  pub first : List Entry
  pub second : List Entry
  pub joined : core.past ++ core.history ≡ settled ++ (first ++ second)
  pub began : core.start.number ≡ core.origin + length core.past
  pub floor : core.floor ≡ core.origin + length settled
  pub cache : (cell : Cell) → value_at core.cache cell ≡ applied (effects second cell) None
  pub snapshot : IfSnapshotIs core.floor first second core.snapshot
  pub files : AllByRecursion (FileIsCut (first ++ second)) core.files
