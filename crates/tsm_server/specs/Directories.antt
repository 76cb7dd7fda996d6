-- What did one run of `shell` or `run` do with the desk, and why did it end so?
use Rattle.std.specs.Prelude.{◌≡◌, ◌⊎◌, ℕ, List, [], ◌∷◌, ◌++◌, Option, Result, Ok, Err, None, Some, map}
use Rattle.shard_disk.specs.declared.disk.Disk.{Ghosts}
use Rattle.shard_disk.specs.declared.trouble.Trouble.{Trouble}
use Rattle.shard_disk.specs.declared.trouble.Trouble.TheVariants as trouble
use Rattle.shard_disk.specs.Health.{Health, Rose}
use Rattle.session_io.specs.declared.client.Word.{Word}
use Rattle.session_io.specs.declared.client.Client.{Client}
use Rattle.session_io.specs.declared.report.End.{End}
use Rattle.session_io.specs.declared.report.Report.{Report}
use Rattle.session_io.specs.Clients.{Held, HandsOut, IsFresh, closed_client}
use Rattle.session_io.specs.Directories.{HandsOutDir, HeldDir, Left, OfClient, OfDir}
use Rattle.gate_log.specs.declared.fault.LogFault.{LogFault}
use Rattle.gate_log.specs.declared.fault.LogFault.TheVariants as fault
use Rattle.shard_steps.specs.declared.settings.Settings.{Settings}
use Rattle.engine_session.specs.Clients.{Finished, ServesClients}
use Rattle.engine_session.specs.Devices.{Devices}
use Rattle.engine_session.specs.Shells.{OpensNone as OpensNoEngine}
use Rattle.tsm_server.specs.Outcomes.{status_by}
use Rattle.tsm_server.specs.Words.{AsksDirectory, Names}
use Rattle.tsm_server.specs.declared.status.Status.{Status}
use Rattle.tsm_server.specs.declared.status.Status.TheVariants as status

-- what a desk tells of itself
pub record Seen (D S K C : Type 0) : Type 0 where
  pub health : Health
  pub dirs : Option (List (HeldDir D))
  pub held : Option (List (Held S K C))
  pub closed : List (Left D)

abbrev pub seen : {X D S K C : Type 0} → (X → Health) → (X → Option (List (HeldDir D))) → (X → Option (List (Held S K C))) → (X → List (Left D)) → X → Seen D S K C
seen health dirs held closed desk = record { health = health desk; dirs = dirs desk; held = held desk; closed = closed desk }

-- ---- statuses

-- the status where something couldn't be opened
abbrev pub status_of : Trouble → Status
status_of trouble.Fault = status.Fault
status_of trouble.Memory = status.NoMemory

-- the status where a directory was refused
abbrev pub status_by_opening : LogFault → Status
status_by_opening (fault.Damaged damage) = status.Damaged damage
status_by_opening fault.Fault = status.Fault
status_by_opening fault.Memory = status.NoMemory

-- the status of closing a directory
abbrev pub status_by_closing : Result (Unit {0}) Trouble → Status
status_by_closing (Ok done) = status.Served
status_by_closing (Err why) = status_of why

-- of what came first and of what came next: a fault goes before want of memory, and this before what went well
abbrev pub graver : Status → Status → Status
graver status.Served next = next
graver status.NoMemory status.Fault = status.Fault
graver status.NoMemory next = status.NoMemory
graver first next = first

-- the gravest of a first status and of those by which sessions ended
abbrev pub gravest : Status → List End → Status
gravest first [] = first
gravest first (end ∷ ends) = gravest (graver first (status_by end)) ends

-- ---- what was opened and closed

-- what the program's engines run with
pub record IsUsual (settings : Settings) : Type 0 where
  pub cache_points : settings.cache_points ≡ 16000000
  pub series : settings.series ≡ 10000000
  pub views : settings.views ≡ 1024

-- a fault is told where the count of the desk rose, and want of memory where it stayed
abbrev pub OpeningFailed : Trouble → Health → Health → Type 0
OpeningFailed trouble.Fault old new = Rose old.faults new.faults
OpeningFailed trouble.Memory old new = new.faults ≡ old.faults

-- Nothing was opened.
pub record OpensNone {D S K C : Type 0} (why : Trouble) (old new : Seen D S K C) : Type 0 where
  pub held : new.held ≡ old.held
  pub dirs : new.dirs ≡ old.dirs
  pub closed : new.closed ≡ old.closed
  pub cause : OpeningFailed why old.health new.health

-- The directory of this path was opened; no reader of it was out.
pub record OpensDir {D S K C : Type 0} (path : List ℕ) (disk : D) (old new : Seen D S K C) : Type 0 where
  pub handed : HandsOutDir path disk old.dirs new.dirs
  pub held : new.held ≡ old.held
  pub closed : new.closed ≡ old.closed
  pub quiet : new.health.faults ≡ old.health.faults

-- These were closed, in their order, and nothing else was done.
pub record Closes {D S K C : Type 0} (left : List (Left D)) (old new : Seen D S K C) : Type 0 where
  pub closed : new.closed ≡ old.closed ++ left
  pub held : new.held ≡ old.held
  pub dirs : new.dirs ≡ old.dirs
  pub health : new.health ≡ old.health

module _ {D S K C : Type 0} (members : Devices S K C) where
  -- The client of these names was opened, of which nothing was read, asked or written.
  pub record OpensClient (names : Names) (client : Client S K C) (old new : Seen D S K C) : Type 0 where
    pub fresh : IsFresh members.given members.ended members.source_health members.written members.sink_health members.moments client
    pub handed : HandsOut names.input names.output client old.held new.held
    pub dirs : new.dirs ≡ old.dirs
    pub closed : new.closed ≡ old.closed
    pub quiet : new.health.faults ≡ old.health.faults

  -- the same of several, one after another
  abbrev pub OpensClients : List Names → List (Client S K C) → Seen D S K C → Seen D S K C → Type 0
  OpensClients [] [] old new = new ≡ old
  OpensClients (names ∷ more) (client ∷ clients) old new = (between : Seen D S K C) × OpensClient names client old between × OpensClients more clients between new
  OpensClients [] (client ∷ clients) old new = ⊥
  OpensClients (names ∷ more) [] old new = ⊥

  -- what is left of a client that wasn't served, and of one that was
  abbrev pub unserved : Client S K C → Left D
  unserved client = OfClient (closed_client members.given members.ended members.source_health members.written members.sink_health members.moments client None)

  abbrev pub left_of : Finished S K C → Left D
  left_of finished = OfClient (closed_client members.given members.ended members.source_health members.written members.sink_health members.moments finished.client (Some finished.report))

  -- The first of these clients were opened; then none could be, or there was no memory to begin.
  pub record OpensSome (names : List Names) (opened : List (Client S K C)) (why : Trouble) (old new : Seen D S K C) : Type 0 where
    pub front : List Names
    pub behind : List Names
    pub whole : names ≡ front ++ behind
    pub between : Seen D S K C
    pub opens : OpensClients front opened old between
    pub failed : OpensNone why between new

-- ---- why the program ended so

module _ {D R W S K C : Type 0} (g : Ghosts D R W) where
  -- The disk's directory was refused, and closed as it then was.
  pub record RefusesDisk (disk : D) (old new : Seen D S K C) (s : Status) : Type 0 where
    pub why : LogFault
    pub left : D
    pub refuses : OpensNoEngine g disk left why
    pub closes : Closes (OfDir left ∷ []) old new
    pub status : s ≡ status_by_opening why

  -- Nothing was opened, or the directory of this path, which was refused; and no client.
  abbrev pub PathRefused : List ℕ → Seen D S K C → Seen D S K C → Status → Type 0
  PathRefused path old new s =
      ((why : Trouble) × OpensNone why old new × (s ≡ status_of why))
      ⊎ ((disk : D) × (between : Seen D S K C) × OpensDir path disk old between × RefusesDisk disk between new s)

module _ {D R W S K C : Type 0} (g : Ghosts D R W) (members : Devices S K C) where
  -- The clients went through serving over the disk's directory, and were closed as they then were, and the directory behind them. The
  -- status is the gravest of closing's and the sessions'.
  pub record ServesAll (disk : D) (clients : List (Client S K C)) (old new : Seen D S K C) (s : Status) : Type 0 where
    pub settings : Settings
    pub usual : IsUsual settings
    pub finished : List (Finished S K C)
    pub left : D
    pub number : ℕ
    pub closing : Result (Unit {0}) Trouble
    pub serves : ServesClients g members settings clients finished disk left number closing
    pub closes : Closes (map (left_of members) finished ++ OfDir left ∷ []) old new
    pub status : s ≡ gravest (status_by_closing closing) (map (λ (f : Finished S K C). f.report.end) finished)

  -- The disk's directory served nobody, and was closed. The status is the graver of the reason and of closing's.
  pub record ServesNobody (disk : D) (why : Trouble) (old new : Seen D S K C) (s : Status) : Type 0 where
    pub settings : Settings
    pub usual : IsUsual settings
    pub left : D
    pub number : ℕ
    pub closing : Result (Unit {0}) Trouble
    pub serves : ServesClients g members settings [] [] disk left number closing
    pub closes : Closes (OfDir left ∷ []) old new
    pub status : s ≡ graver (status_of why) (status_by_closing closing)

  -- Not all of these clients were opened, or there was no memory to begin. Those that were opened were closed as they were, and the
  -- directory behind them.
  pub record ClosesUnserved (disk : D) (names : List Names) (old new : Seen D S K C) (s : Status) : Type 0 where
    pub why : Trouble
    pub opened : List (Client S K C)
    pub middle : Seen D S K C
    pub opens : OpensSome members names opened why old middle
    pub later : Seen D S K C
    pub closes : Closes (map (unserved members) opened) middle later
    pub nobody : ServesNobody disk why later new s

  -- These clients were served, or there was no memory to begin, and they were closed as they were, and the directory behind them.
  abbrev pub ServesOrLeaves : D → List (Client S K C) → Seen D S K C → Seen D S K C → Status → Type 0
  ServesOrLeaves disk clients old new s =
      ServesAll disk clients old new s
      ⊎ ((later : Seen D S K C) × Closes (map (unserved members) clients) old later × ServesNobody disk trouble.Memory later new s)

  -- why the program ended so for these clients, once their directory was opened on this disk
  abbrev pub ClientsCause : D → List Names → Seen D S K C → Seen D S K C → Status → Type 0
  ClientsCause disk names old new s =
      ((clients : List (Client S K C)) × (between : Seen D S K C) × OpensClients members names clients old between × ServesAll disk clients between new s)
      ⊎ ClosesUnserved disk names old new s

  -- why the program ended so for these clients over the directory of this path
  abbrev pub PathCause : List ℕ → List Names → Seen D S K C → Seen D S K C → Status → Type 0
  PathCause path names old new s =
      PathRefused g path old new s
      ⊎ ((disk : D) × (between : Seen D S K C) × OpensDir path disk old between × ClientsCause disk names between new s)

  -- why `shell` or `run` ended so
  pub record DirectoryCause (words : List Word) (old new : Seen D S K C) (s : Status) : Type 0 where
    pub path : List ℕ
    pub names : List Names
    pub asked : AsksDirectory words path names
    pub cause : PathCause path names old new s
