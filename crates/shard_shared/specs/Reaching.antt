-- What has an engine come to since its history began?
use Rattle.std.specs.Prelude.{◌≡◌, ℕ, ◌+◌, ◌≤◌, min, List, [], Contains, Option, Some, None, IsTrue}
use Rattle.std.specs.List.{AllByRecursion}
use Rattle.shard_disk.specs.Health.{Health, Ages, last_count}
use Rattle.shard_disk.specs.declared.disk.Disk.{Ghosts}
use Rattle.point_model.specs.Histories.{State, state_after}
use Rattle.point_model.specs.declared.entry.Entry.{Entry}
use Rattle.shard_state.specs.History.{Attempt, Made}
use Rattle.shard_steps.specs.Shards.{IsReady, Runs, state_of}
use Rattle.shard_steps.specs.declared.shard.Shard.{Shard}
use Rattle.shard_calls.specs.Holds.{HasRun, HoldsSeries}
use Rattle.shard_shared.specs.Entries.{AreFew, entries_in, made_by, refusals_in, tried_in}
use Rattle.shard_shared.specs.declared.engine.Engine.{Engine}
use Rattle.shard_shared.specs.declared.engine.Entered.{Entered}

-- The health of a disk that so many calls failed at since it was this: its count rose with each, up to its last value, and where
-- none failed it is as it was.
pub record HasFailed (start : Health) (faults : ℕ) (now : Health) : Type 0 where
  pub ages : Ages start now
  pub counted : min (start.faults + faults) last_count ≤ now.faults
  pub quiet : faults ≡ 0 → now ≡ start

-- an entry that was logged, on this disk
abbrev pub entered_by : {D R W : Type 0} → Ghosts D R W → Entry → Shard D → Entered
entered_by g entry shard = record { entry = entry; moment = (g.crashes shard.logs.disk).moment }

-- The engine ran from the start to exactly these entries, each logged by its moment: every crash since leaves a prefix of them,
-- with at most one entry more, which was tried behind exactly that prefix.
pub record RunsTo {D R W : Type 0} (g : Ghosts D R W) (start : State) (since : ℕ) (made : List Made) (tried : List Attempt) (shard : Shard D) : Type 0 where
  pub refused : List Attempt
  pub were_tried : AllByRecursion (Contains tried) refused
  pub doubt : Option Entry
  pub runs : Runs g shard start since made refused doubt

-- An engine came from its start to these entries: its points and number are those behind them, its limits are as they were, no
-- reader was handed out, so many of its answers told a fault, and these entries were tried besides.
pub record ComesTo {D R W : Type 0} (g : Ghosts D R W) (start : Shard D) (faults : ℕ) (tried : List Attempt) (entered : List Entered) (shard : Shard D) : Type 0 where
  pub ready : IsReady g shard
  pub state : state_of shard ≡ state_after (state_of start) (entries_in entered)
  pub settings : shard.settings ≡ start.settings
  pub series : HoldsSeries start.logs.series.keys (entries_in entered) tried shard.logs.series.keys
  pub handed_out : g.handed_out shard.logs.disk ≡ g.handed_out start.logs.disk
  pub health : HasFailed (g.health start.logs.disk) faults (g.health shard.logs.disk)

-- the same where there is a start; from nowhere it came to nothing
abbrev pub ComesFrom : {D R W : Type 0} → Ghosts D R W → Option (Shard D) → ℕ → List Attempt → List Entered → Shard D → Type 0
ComesFrom g (Some start) faults tried entered shard = ComesTo g start faults tried entered shard
ComesFrom g None faults tried entered shard = ⊥

-- Where the start was sound since a moment, the engine ran since then to these entries, and these were tried besides.
abbrev pub RanFrom : {D R W : Type 0} → Ghosts D R W → Option (Shard D) → List Attempt → List Entered → Shard D → Type 0
RanFrom g (Some start) tried entered shard =
    IsTrue g.tells → (since : ℕ) → HasRun g (state_of start) since [] [] start → RunsTo g (state_of start) since (made_by entered) tried shard
RanFrom g None tried entered shard = ⊥

-- An engine came from its start to these entries, none of the refusals that were noted found more series than it holds, and what a crash
-- may leave besides the entries is one of those that are noted as tried.
abbrev pub Stands : {D R W : Type 0} → Ghosts D R W → Option (Shard D) → List Entered → Engine D → Type 0
Stands g start entered engine = ComesFrom g start engine.faults (tried_in (refusals_in engine.found.items)) entered engine.shard × AreFew (refusals_in engine.found.items) engine.shard.logs.series.keys
    × RanFrom g start (tried_in (refusals_in engine.found.items)) entered engine.shard
