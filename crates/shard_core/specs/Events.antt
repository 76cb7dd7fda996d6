-- What can happen to the state?
use Rattle.std.specs.Prelude.{List, [], ◌∷◌, ⊤}
use Rattle.shard_core.specs.State.{Core}
use Rattle.shard_core.specs.EntryEvents.{Deletes, DoubtsEntry, EndsEntryDoubt, Writes}
use Rattle.shard_core.specs.SnapshotEvents.{AbandonsSnapshot, BeginsSnapshot, EndsSnapshot}
use Rattle.shard_core.specs.MergeEvents.{AbandonsMerge, BeginsMerge, EndsMerge}
use Rattle.shard_core.specs.ViewEvents.{BeginsView, EndsView, Purges}
use Rattle.shard_core.specs.DiskEvents.{CompactsIndex, DoubtsEdit, RecordsFiles, SettlesEdit, StoresChanges, StoresIndex}
use Rattle.shard_core.specs.Crashes.{CrashesAndOpens}

-- one event
pub data Event (old new : Core) : Type 0 where
  write : Writes old new → Event old new
  delete : Deletes old new → Event old new
  doubt : DoubtsEntry old new → Event old new
  settle : EndsEntryDoubt old new → Event old new
  begin_snapshot : BeginsSnapshot old new → Event old new
  end_snapshot : EndsSnapshot old new → Event old new
  abandon_snapshot : AbandonsSnapshot old new → Event old new
  begin_merge : BeginsMerge old new → Event old new
  end_merge : EndsMerge old new → Event old new
  abandon_merge : AbandonsMerge old new → Event old new
  begin_view : BeginsView old new → Event old new
  end_view : EndsView old new → Event old new
  purge : Purges old new → Event old new
  write_record : RecordsFiles old new → Event old new
  doubt_edit : DoubtsEdit old new → Event old new
  settle_edit : SettlesEdit old new → Event old new
  store_changes : StoresChanges old new → Event old new
  store_index : StoresIndex old new → Event old new
  compact_index : CompactsIndex old new → Event old new
  crash : CrashesAndOpens old new → Event old new

-- each state comes from the one before by one event
abbrev pub AreEvents : Core → List Core → Type 0
AreEvents core [] = ⊤
AreEvents core (next ∷ rest) = Event core next × AreEvents next rest
