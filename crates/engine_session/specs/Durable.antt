-- What does a disk owe the entries of a history that was closed?
use Rattle.std.specs.Prelude.{◌≡◌, ◌≤◌, ℕ, ◌+◌, List, length, Contains, Option, Result, OnOk}
use Rattle.std.specs.List.{AllByRecursion}
use Rattle.std.specs.Option.{option_to_list}
use Rattle.shard_disk.specs.Directory.{Directory}
use Rattle.shard_disk.specs.declared.disk.Disk.{Ghosts}
use Rattle.shard_disk.specs.declared.trouble.Trouble.{Trouble}
use Rattle.point_model.specs.Histories.{State, state_after}
use Rattle.point_model.specs.declared.entry.Entry.{Entry}
use Rattle.shard_state.specs.History.{AreKept, Attempt, Made, StandsForPrefix, WasRefused, entries_of}
use Rattle.shard_state.specs.Meaning.{StandsWithAtMost}
use Rattle.shard_state.specs.Opening.{IsSoundThroughout, IsSoundWithAtMost}

-- Each image of any moment since this one stands for a prefix of the entries with at most one entry more, which was tried behind exactly that
-- prefix, and has each entry from the entry's moment on, which is the end of the step that logged it. What a crash leaves now has all of them, with
-- the one that is in doubt or without; and where closing was Ok the disk stands for exactly the state behind them, whatever crash comes.
-- Either way the disk is sound as it is opened again, for that state or with the entry in doubt.
pub record Lasts {D R W : Type 0} (g : Ghosts D R W) (disk : D) (since : ℕ) (start : State) (history : List Entry) (tried : List Attempt) (closed : Result (Unit {0}) Trouble) : Type 0 where
  pub later : since ≤ (g.crashes disk).moment
  pub made : List Made
  pub are : entries_of made ≡ history
  pub refused : List Attempt
  pub were_tried : AllByRecursion (Contains tried) refused
  pub doubt : Option Entry
  pub asked : AllByRecursion (WasRefused refused (start.number + length history)) (option_to_list doubt)
  pub each : (c : Directory) → (g.crashes disk).since since c → StandsForPrefix start history refused 0 c
  pub kept : AreKept (g.crashes disk) start history refused 0 made
  pub now : (c : Directory) → (g.crashes disk).now c → StandsWithAtMost (state_after start history) (option_to_list doubt) c
  pub again : IsSoundWithAtMost g disk (state_after start history) (option_to_list doubt)
  pub exactly : OnOk closed (IsSoundThroughout g disk (state_after start history))
