-- What does serving clients over a directory come to, from the disk and the clients on?
use Rattle.std.specs.Prelude.{◌≡◌, ℕ, List, [], ◌∷◌, Result}
use Rattle.shard_disk.specs.declared.disk.Disk.{Ghosts}
use Rattle.shard_disk.specs.declared.trouble.Trouble.{Trouble}
use Rattle.session_io.specs.declared.client.Client.{Client}
use Rattle.session_io.specs.declared.report.Report.{Report}
use Rattle.shard_steps.specs.declared.settings.Settings.{Settings}
use Rattle.engine_session.specs.Devices.{Devices, told_by}
use Rattle.engine_session.specs.Ends.{EndsBy}
use Rattle.engine_session.specs.Serving.{ClientSession}
use Rattle.engine_session.specs.Shells.{ServesDirectory}

-- a client that was served, and the report of its session
pub record Finished (S K C : Type 0) : Type 0 where
  pub client : Client S K C
  pub report : Report

module _ {S K C : Type 0} (members : Devices S K C) where
  -- The client had this session, and its end has its cause.
  pub record IsSessionOf (client : Client S K C) (finished : Finished S K C) (session : ClientSession) : Type 0 where
    pub is : session ≡ record { before = told_by members client; now = told_by members finished.client; report = finished.report }
    pub ends : EndsBy members.ended members.source_health members.sink_health client.source finished.client.source client.sink finished.client.sink finished.report

  -- the same of several clients, one by one
  abbrev pub AreSessions : List (Client S K C) → List (Finished S K C) → List ClientSession → Type 0
  AreSessions [] [] [] = Unit {0}
  AreSessions (client ∷ clients) (finished ∷ more) (session ∷ sessions) = IsSessionOf client finished session × AreSessions clients more sessions
  AreSessions [] [] (session ∷ sessions) = ⊥
  AreSessions [] (finished ∷ more) sessions = ⊥
  AreSessions (client ∷ clients) [] sessions = ⊥
  AreSessions (client ∷ clients) (finished ∷ more) [] = ⊥

-- The directory was opened, these clients were served over it, and it was closed.
pub record ServesClients {D R W S K C : Type 0} (g : Ghosts D R W) (members : Devices S K C) (settings : Settings) (clients : List (Client S K C)) (finished : List (Finished S K C)) (disk disk' : D) (number : ℕ) (closed : Result (Unit {0}) Trouble) : Type 0 where
  pub sessions : List ClientSession
  pub are : AreSessions members clients finished sessions
  pub serves : ServesDirectory g settings disk disk' sessions number closed
