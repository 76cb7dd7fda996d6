-- Laws of events and of what crashes leave.
use Rattle.std.specs.Prelude.{◌≡◌, ◌||◌, IsSome, ℕ, List, ◌∷◌, ◌++◌, Some, Bool}
use Rattle.std.specs.List.{AllByRecursion}
use Rattle.std.specs.List.Sorted.{IsStrictlySortedBy}
use Rattle.std.specs.Map.{keys_of}
use Rattle.tsdb_types.specs.declared.point.Cell.{Cell}
use Rattle.tsdb_types.specs.declared.point.Point.{Point}
use Rattle.point_model.specs.declared.deletion.Deletion.{Deletion}
use Rattle.point_model.specs.declared.entry.Entry.{Entry}
use Rattle.point_model.specs.Acceptance.{IsAccepted, Takes}
use Rattle.point_model.specs.Deletions.{is_deleted}
use Rattle.point_model.specs.Points.{Points, cell_cmp, value_at}
use Rattle.point_model.specs.Contents.{live, spared}
use Rattle.shard_core.specs.Contents.{held}
use Rattle.shard_core.specs.Crashes.{CrashesAndOpens, MayLeave, OpensDirectory}
use Rattle.shard_core.specs.DiskEvents.{CompactsIndex, DoubtsEdit, RecordsFiles, SettlesEdit, StoresChanges, StoresIndex}
use Rattle.shard_core.specs.EntryEvents.{Deletes, DoubtsEntry, EndsEntryDoubt, Writes}
use Rattle.shard_core.specs.Events.{AreEvents}
use Rattle.shard_core.specs.Images.{IsAfter, ImageStands, IsDirectory}
use Rattle.shard_core.specs.Invariant.{Invariant}
use Rattle.shard_core.specs.MergeEvents.{AbandonsMerge, BeginsMerge, EndsMerge}
use Rattle.shard_core.specs.Numbers.{times_named}
use Rattle.shard_core.specs.SnapshotEvents.{AbandonsSnapshot, BeginsSnapshot, EndsSnapshot}
use Rattle.shard_core.specs.State.{Core, Image, Merge, Snapshot, empty_image}
use Rattle.shard_core.specs.Taken.{AcceptsFields, Admits, IsReadableImage}
use Rattle.shard_core.specs.ViewEvents.{BeginsView, EndsView, Purges}

-- What the fields of a shard give of contents: where tombstones come to cover of each point what the deletion takes away, the deletion
-- has spared the layer, whatever they cover beside the points; an entry that the points take is admitted by what they have, and a
-- batch that is accepted by its values is accepted by the points.
pub record FieldsGiveContents : Type 0 where
  pub covered : (deletion : Deletion) (points : Points) (before now : Cell → Bool)
      → ((cell : Cell) → IsSome (value_at points cell) → now cell ≡ (before cell || is_deleted deletion cell))
      → (cell : Cell) → live points now cell ≡ spared deletion (live points before) cell
  pub admits : (points : Points) (entry : Entry) → Takes points entry → Admits (held points) entry
  pub accepted : (points : Points) (batch : List Point) → IsStrictlySortedBy cell_cmp (keys_of points) → AcceptsFields (held points) batch → IsAccepted points batch

-- Each event keeps what holds of the state.
pub record EventsKeep : Type 0 where
  pub write : (old new : Core) → Writes old new → Invariant old → Invariant new
  pub delete : (old new : Core) → Deletes old new → Invariant old → Invariant new
  pub doubt : (old new : Core) → DoubtsEntry old new → Invariant old → Invariant new
  pub settle : (old new : Core) → EndsEntryDoubt old new → Invariant old → Invariant new
  pub begin_snapshot : (old new : Core) → BeginsSnapshot old new → Invariant old → Invariant new
  pub end_snapshot : (old new : Core) → EndsSnapshot old new → Invariant old → Invariant new
  pub abandon_snapshot : (old new : Core) → AbandonsSnapshot old new → Invariant old → Invariant new
  pub begin_merge : (old new : Core) → BeginsMerge old new → Invariant old → Invariant new
  pub end_merge : (old new : Core) → EndsMerge old new → Invariant old → Invariant new
  pub abandon_merge : (old new : Core) → AbandonsMerge old new → Invariant old → Invariant new
  pub begin_view : (old new : Core) → BeginsView old new → Invariant old → Invariant new
  pub end_view : (old new : Core) → EndsView old new → Invariant old → Invariant new
  pub purge : (old new : Core) → Purges old new → Invariant old → Invariant new
  pub write_record : (old new : Core) → RecordsFiles old new → Invariant old → Invariant new
  pub doubt_edit : (old new : Core) → DoubtsEdit old new → Invariant old → Invariant new
  pub settle_edit : (old new : Core) → SettlesEdit old new → Invariant old → Invariant new
  pub store_changes : (old new : Core) → StoresChanges old new → Invariant old → Invariant new
  pub store_index : (old new : Core) → StoresIndex old new → Invariant old → Invariant new
  pub compact_index : (old new : Core) → CompactsIndex old new → Invariant old → Invariant new
  pub crash : (old new : Core) → CrashesAndOpens old new → Invariant old → Invariant new

-- Over every list of events the invariant is kept.
abbrev pub EveryListKeeps : Type 0
EveryListKeeps = (core : Core) (rest : List Core) → Invariant core → AreEvents core rest → AllByRecursion Invariant rest

-- What a crash may leave stands for the points after the history, or after it and the entry in doubt, and can be read again; what
-- is opened then begins there; and a directory that can be read again is opened to a state that meets the invariant.
pub record CrashesLeave : Type 0 where
  pub stands : (core : Core) → Invariant core → (more : List Entry) (image : Image) → MayLeave core more image → ImageStands core.start (core.history ++ more) image
  pub readable : (core : Core) → Invariant core → (more : List Entry) (image : Image) → MayLeave core more image → IsReadableImage image
  pub begins : (old new : Core) (crashes : CrashesAndOpens old new) → Invariant old → IsAfter old.start (old.history ++ crashes.more) new.start
  pub opens : (image : Image) (core : Core) → IsDirectory image → IsReadableImage image → OpensDirectory image core → Invariant core

-- A snapshot that stands, and each merge, can end, with any unused number for its file; and an empty directory can be opened.
pub record EventsCome : Type 0 where
  pub end_snapshot : (core : Core) → Invariant core → (snapshot : Snapshot) → core.snapshot ≡ Some snapshot → (no : ℕ) → times_named core no ≡ 0 → (new : Core) × EndsSnapshot core new
  pub end_merge : (core : Core) → Invariant core → (earlier : List Merge) (merge : Merge) (others : List Merge) → core.merges ≡ earlier ++ merge ∷ others
      → (no : ℕ) → times_named core no ≡ 0 → (new : Core) × EndsMerge core new
  pub directory : IsDirectory empty_image
  pub readable : IsReadableImage empty_image
  pub opens : (new : Core) × OpensDirectory empty_image new
