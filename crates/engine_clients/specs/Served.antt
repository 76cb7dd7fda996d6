-- What does serving several clients over an engine come to?
use Rattle.std.specs.Prelude.{◌≡◌, ℕ, Bool, true, false, List, [], length, map, Some, None, IsTrue}
use Rattle.shard_disk.specs.declared.disk.Disk.{Ghosts}
use Rattle.session_io.specs.declared.client.Client.{Client}
use Rattle.point_model.specs.Histories.{state_after}
use Rattle.point_model.specs.declared.entry.Entry.{Entry}
use Rattle.shard_calls.specs.Holds.{HasRun, HoldsSeries}
use Rattle.shard_calls.specs.Told.{limits_of}
use Rattle.shard_state.specs.History.{Attempt}
use Rattle.shard_steps.specs.Shards.{IsReady, state_of}
use Rattle.shard_steps.specs.declared.shard.Shard.{Shard}
use Rattle.engine_session.specs.Clients.{AreSessions, Finished}
use Rattle.engine_session.specs.Devices.{Devices}
use Rattle.engine_session.specs.Serving.{AreServed, ClientSession, Serves}
use Rattle.engine_clients.specs.Seats.{Served}
use Rattle.engine_clients.specs.declared.serving.Ended.{Ended}

module _ {D S K C : Type 0} where
  -- a client alone, whose pass and report don't count
  abbrev pub client_of : Served D S K C → Client S K C
  client_of served = served.client

  -- a client that was served, as it is handed back
  abbrev pub left_by : Finished S K C → Served D S K C
  left_by finished = record { client = finished.client; report = Some finished.report; pass = None }

-- Each client had a session over the engine, and its report is kept, in the order of the clients. One history explains what all of
-- them were told, no reply tells of more series than the engine holds, and it stands for its start and exactly that history, with at most
-- an entry more in a crash that a client was refused.
pub record ServesTogether {D R W S K C : Type 0} (g : Ghosts D R W) (members : Devices S K C) (start left : Shard D) (old new : List (Served D S K C)) : Type 0 where
  pub finished : List (Finished S K C)
  pub left_are : new ≡ map left_by finished
  pub sessions : List ClientSession
  pub are : AreSessions members (map client_of old) finished sessions
  pub history : List Entry
  pub tried : List Attempt
  pub holds : HoldsSeries start.logs.series.keys history tried left.logs.series.keys
  pub served : AreServed sessions (state_of start) (limits_of (state_of start) start.logs.series.keys start) (length left.logs.series.keys) history tried (g.health start.logs.disk) (g.health left.logs.disk)
  pub state : state_of left ≡ state_after (state_of start) history
  pub ran : IsTrue g.tells → (since : ℕ) → HasRun g (state_of start) since [] [] start → HasRun g (state_of start) since history tried left
  pub ready : IsReady g left
  -- no view is out, and no reader or writer of the disk was left out
  pub unlent : left.views ≡ 0
  pub same : g.handed_out left.logs.disk ≡ g.handed_out start.logs.disk

-- Clients were served over an engine, which was closed: each was handed back with its report, in their order, and one history
-- explains what all of them were told. Where there was no memory to begin, the clients are as they were and the engine was closed
-- without an entry.
abbrev pub ServesEngineBy : {D R W S K C : Type 0} → Ghosts D R W → Devices S K C → Shard D → List (Served D S K C) → List (Served D S K C) → Ended D → Bool → Type 0
ServesEngineBy g members engine old new ended true = (finished : List _) × (new ≡ map left_by finished)
    × (sessions : List ClientSession) × AreSessions members (map client_of old) finished sessions
    × Serves g sessions engine ended.disk ended.number ended.closed
ServesEngineBy g members engine old new ended false = (new ≡ old) × Serves g [] engine ended.disk ended.number ended.closed

abbrev pub ServesEngine : {D R W S K C : Type 0} → Ghosts D R W → Devices S K C → Shard D → List (Served D S K C) → List (Served D S K C) → Ended D → Type 0
ServesEngine g members engine old new ended = ServesEngineBy g members engine old new ended ended.served
