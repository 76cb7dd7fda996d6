-- What holds of an engine over its disk?
use Rattle.std.specs.Prelude.{◌≡◌, ℕ, ◌≤◌, List, Option}
use Rattle.shard_disk.specs.declared.disk.Disk.{Ghosts}
use Rattle.point_model.specs.Histories.{State, state_after}
use Rattle.point_model.specs.declared.entry.Entry.{Entry}
use Rattle.shard_state.specs.Engine as logs
use Rattle.shard_state.specs.History.{Attempt, Made, Ran, entries_of}
use Rattle.shard_steps.specs.declared.shard.Shard.{Shard}

-- the points in memory, and the number of the last entry
abbrev pub state_of : {D : Type 0} → Shard D → State
state_of shard = record { points = shard.live.points; number = shard.logs.number }

-- what every call asks for, whatever the disk tells: the logs are ready, and no more views are out than may be
pub record IsReady {D R W : Type 0} (g : Ghosts D R W) (shard : Shard D) : Type 0 where
  pub logs : logs.IsReady g shard.logs
  pub views : shard.views ≤ shard.settings.views

-- The engine stands for the entries behind the start, in its logs and in memory, with one in doubt or none, which was refused; and
-- every crash since the start leaves a prefix of them, with at most one of those that were refused behind it.
pub record Runs {D R W : Type 0} (g : Ghosts D R W) (shard : Shard D) (start : State) (since : ℕ) (made : List Made) (refused : List Attempt) (doubt : Option Entry) : Type 0 where
  pub logs : Ran g shard.logs start since made refused doubt
  pub points : shard.live.points ≡ (state_after start (entries_of made)).points
