-- What was opened and closed, step by step, and what was served from the disk on.
use Rattle.std.proofs.Common.{◌≡◌, ℕ, suc, List, length, [], ◌∷◌, ◌++◌, refl, sym, ap, ◌∙◌, subst, append_assoc, append-nil}
use Rattle.std.specs.Prelude.{Err, Result}
use Rattle.shard_disk.specs.Health.{Health}
use Rattle.shard_disk.specs.declared.disk.Disk.{Ghosts}
use Rattle.shard_disk.specs.declared.trouble.Trouble.{Trouble}
use Rattle.shard_disk.specs.declared.trouble.Trouble.TheVariants as trouble
use Rattle.session_io.specs.declared.client.Client.{Client}
use Rattle.session_io.specs.declared.report.Report.{Report}
use Rattle.session_io.specs.Clients.{OpeningHasCause}
use Rattle.session_io.specs.Directories.{Left}
use Rattle.shard_steps.specs.declared.shard.Shard.{Shard}
use Rattle.engine_session.specs.Clients.{AreSessions, Finished, ServesClients}
use Rattle.engine_session.specs.Devices.{Devices, told_by}
use Rattle.engine_session.specs.Ends.{EndsBy}
use Rattle.engine_session.specs.Serving.{ClientSession, Serves}
use Rattle.engine_session.proofs.ShellLemmas.{serves_directory}
use Rattle.tsm_server.specs.Directories.{Closes, OpeningFailed, OpensClient, OpensClients, Seen}
use Rattle.tsm_server.specs.Engines.{IsOpened}
use Rattle.tsm_server.specs.Words.{Names}

-- why an opening was refused
pub opening_failed : {T : Type 0} {held : Type 0} (why : Trouble) (old new : Health) → OpeningHasCause {T = T} (Err why) held old new → OpeningFailed why old new
opening_failed trouble.Fault old new cause = cause.fault refl
opening_failed trouble.Memory old new cause = ap (λ (h : Health). h.faults) (cause.memory refl)

module _ {D S K C : Type 0} where
  -- nothing was closed
  pub closes_none : (old : Seen D S K C) → Closes [] old old
  closes_none old = record { closed = sym (append-nil old.closed); held = refl; dirs = refl; health = refl }

  -- more was closed
  pub closes_more : (first second : List (Left D)) (old mid new : Seen D S K C) → Closes first old mid → Closes second mid new → Closes (first ++ second) old new
  closes_more first second old mid new a b = record {
    closed = b.closed ∙ ap (λ (l : List (Left D)). l ++ second) a.closed ∙ append_assoc old.closed first second;
    held = b.held ∙ a.held;
    dirs = b.dirs ∙ a.dirs;
    health = b.health ∙ a.health;
  }

module _ {D S K C : Type 0} (members : Devices S K C) where
  -- one client more was opened
  pub opens_more : (names : List Names) (clients : List (Client S K C)) (name : Names) (client : Client S K C) (old mid new : Seen D S K C) → OpensClients members names clients old mid
      → OpensClient members name client mid new → OpensClients members (names ++ name ∷ []) (clients ++ client ∷ []) old new
  opens_more [] [] name client old mid new is more = (new, subst (λ (s : Seen D S K C). OpensClient members name client s new) is more, refl)
  opens_more (first ∷ names) (one ∷ clients) name client old mid new is more = (is.0, is.1, opens_more names clients name client is.0 mid new is.2 more)
  opens_more [] (one ∷ clients) name client old mid new is more = absurd is
  opens_more (first ∷ names) [] name client old mid new is more = absurd is

  -- each name is a client
  pub opens_all : (names : List Names) (clients : List (Client S K C)) (old new : Seen D S K C) → OpensClients members names clients old new → length clients ≡ length names
  opens_all [] [] old new is = refl
  opens_all (name ∷ names) (client ∷ clients) old new is = ap suc (opens_all names clients is.0 new is.2)
  opens_all [] (client ∷ clients) old new is = absurd is
  opens_all (name ∷ names) [] old new is = absurd is

module _ {D R W S K C : Type 0} (g : Ghosts D R W) (members : Devices S K C) (disk : D) (engine : Shard D) (opened : IsOpened g disk engine) (left : D) (number : ℕ) (closing : Result (Unit {0}) Trouble) where
  -- clients were served over an engine that was opened on this disk
  pub serves_clients : (clients : List (Client S K C)) (finished : List (Finished S K C)) (sessions : List ClientSession) → AreSessions members clients finished sessions → Serves g sessions engine left number closing
      → ServesClients g members engine.settings clients finished disk left number closing
  serves_clients clients finished sessions are serves = record {
    sessions = sessions;
    are = are;
    serves = serves_directory g engine.settings disk engine refl opened.health opened.answers opened.begins opened.settled opened.kept sessions left number closing serves;
  }

  pub serves_one : (client finished : Client S K C) (report : Report) → EndsBy members.ended members.source_health members.sink_health client.source finished.source client.sink finished.sink report
      → Serves g (record { before = told_by members client; now = told_by members finished; report = report } ∷ []) engine left number closing
      → ServesClients g members engine.settings (client ∷ []) (record { client = finished; report = report } ∷ []) disk left number closing
  serves_one client finished report ends serves = serves_clients (client ∷ []) (record { client = finished; report = report } ∷ []) _ (record { is = refl; ends = ends }, tt) serves
