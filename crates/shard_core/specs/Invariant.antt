-- What holds of the engine's state at any time?
use Rattle.std.specs.Prelude.{◌≡◌, ◌≢◌, ◌↔◌, ℕ, suc, ◌+◌, ◌<◌, ◌≤◌, Bool, true, List, [], ◌++◌, map, length, None, IfSome}
use Rattle.std.specs.List.{AllByRecursion}
use Rattle.tsdb_types.specs.declared.point.Cell.{Cell}
use Rattle.point_model.specs.declared.entry.Entry.{Entry}
use Rattle.point_model.specs.Histories.{State, after}
use Rattle.point_model.specs.Cursors.{HasKey, Key}
use Rattle.point_model.specs.Points.{Points, value_at}
use Rattle.point_model.specs.Contents.{overlay}
use Rattle.shard_core.specs.Contents.{held}
use Rattle.shard_core.specs.Images.{ImageStands}
use Rattle.shard_core.specs.Kinds.{KindsAgree}
use Rattle.shard_core.specs.Numbers.{AreDisjoint, Climbs, count, held_by_merges, held_by_views, times_named}
use Rattle.shard_core.specs.Parts.{StandsInParts}
use Rattle.shard_core.specs.Files.{generation_of, now_of, file_number, source_numbers}
use Rattle.shard_core.specs.Shown.{contents_of}
use Rattle.shard_core.specs.State.{Core, File, Merge, View, points_now}
use Rattle.shard_core.specs.Taken.{DoubtsTaken, EntriesTaken}

-- the overlay of files, snapshot and cache is the points after the history
abbrev pub ShowsHistory : Core → Type 0
ShowsHistory core = (cell : Cell) → overlay (contents_of core) cell ≡ value_at (points_now core) cell

-- the view shows the points after those entries of the history that its number counts
pub record ViewShows (start : State) (history : List Entry) (view : View) : Type 0 where
  pub seen : List Entry
  pub since : List Entry
  pub joined : history ≡ seen ++ since
  pub counted : view.number ≡ start.number + length seen
  pub shows : (cell : Cell) → overlay view.contents cell ≡ value_at (after start.points seen) cell

-- The sources stand among the files, one behind the other. The output under its later tombstones has no cell but its own, and
-- shows what the sources show now.
pub record MergeStands (files : List File) (merge : Merge) : Type 0 where
  pub before : List File
  pub behind : List File
  pub placed : files ≡ before ++ (merge.sources ++ behind)
  pub some : merge.sources ≢ []
  pub within : (cell : Cell) → value_at merge.output cell ≡ None → merge.now cell ≡ None
  pub shows : (cell : Cell) → merge.now cell ≡ overlay (map now_of merge.sources) cell

-- generations ascend and don't pass the floor
abbrev pub GenerationsClimb : Core → Type 0
GenerationsClimb core = Climbs 0 (map generation_of core.files) (suc core.floor)

-- each file has as many holds as views and merges have it
abbrev pub HoldsCounted : Core → Type 0
HoldsCounted core = (n : ℕ) → core.holds n ≡ held_by_views n core.views + held_by_merges n core.merges

-- a file that is held is there, as a file or condemned
abbrev pub HeldPresent : Core → Type 0
HeldPresent core = (n : ℕ) → 0 < core.holds n → 0 < count n (map file_number core.files) + count n core.condemned

-- files and the condemned list name no number twice together
abbrev pub NamedOnce : Core → Type 0
NamedOnce core = (n : ℕ) → times_named core n ≤ 1

-- the directory that an edit in doubt would leave stands for the points after the history
abbrev pub EditStands : Core → Type 0
EditStands core = IfSome core.edit (ImageStands core.start core.history)

-- the index has exactly the keys of the points
abbrev pub IsIndex : Points → (Key → Bool) → Type 0
IsIndex points index = (key : Key) → (index key ≡ true) ↔ HasKey (held points) key

-- Memory shows the points after the history; views, merges and the directory stand for what they should; files are named once,
-- held as counted and there while they are held; and whatever a crash leaves can be read again.
pub record Invariant (core : Core) : Type 0 where
  pub shows : ShowsHistory core
  pub views : AllByRecursion (ViewShows core.start core.history) core.views
  pub merges : AllByRecursion (MergeStands core.files) core.merges
  pub apart : AreDisjoint (map source_numbers core.merges)
  pub parts : StandsInParts core
  pub generations : GenerationsClimb core
  pub holds : HoldsCounted core
  pub present : HeldPresent core
  pub once : NamedOnce core
  pub edit : EditStands core
  pub index : IsIndex (points_now core) core.index
  pub kinds : KindsAgree core
  pub taken : EntriesTaken core
  pub doubts : DoubtsTaken core
