-- What did one run of the program do, and why did it end so?
use Rattle.std.specs.Prelude.{◌≡◌, ◌⊎◌, ℕ, List, [], ◌∷◌, ◌++◌, Option, Some, IsTrue}
use Rattle.shard_disk.specs.Health.{Health, Rose}
use Rattle.session_io.specs.declared.client.Word.{Word}
use Rattle.session_io.specs.declared.client.Client.{Client}
use Rattle.session_io.specs.declared.report.Report.{Report}
use Rattle.session_io.specs.declared.report.End.{End}
use Rattle.session_io.specs.declared.report.End.TheVariants.{Read, SourceFault, SinkFault, Memory}
use Rattle.session_io.specs.Streams.{IsTold}
use Rattle.session_io.specs.Clients.{Closed, Held, HandsOut, IsHeld, closed_client}
use Rattle.session_io.specs.Directories.{Left, OfClient}
use Rattle.session_model.specs.Explained.{Transcript}
use Rattle.session_loop.specs.Sessions.{IsServed}
use Rattle.engine_session.specs.Devices.{Devices, told_by}
use Rattle.tsm_server.specs.Words.{AsksMem, IsCommand, IsMem}
use Rattle.tsm_server.specs.declared.status.Status.{Status}
use Rattle.tsm_server.specs.declared.status.Status.TheVariants as status

-- what is left of a client that was served
abbrev pub closed_by : {S K C : Type 0} → Devices S K C → Client S K C → Report → Closed
closed_by members client report = closed_client members.given members.ended members.source_health members.written members.sink_health members.moments client (Some report)

-- what was left of a client tells this transcript
pub record TellsTranscript (closed : Closed) (transcript : Transcript) : Type 0 where
  pub read : IsTold closed.read transcript.read
  pub ended : transcript.ended ≡ closed.ended
  pub moments : IsTold closed.moments transcript.moments
  pub written : IsTold closed.written transcript.written

-- Why a session ended so: its source has ended, or the count of a device rose from 0; want of memory has no cause. No other
-- device has met a fault.
abbrev pub HasEnded : Closed → End → Type 0
HasEnded closed Read = IsTrue closed.ended × (closed.source_faults ≡ 0) × (closed.sink_faults ≡ 0)
HasEnded closed SourceFault = Rose 0 closed.source_faults × (closed.sink_faults ≡ 0)
HasEnded closed SinkFault = Rose 0 closed.sink_faults × (closed.source_faults ≡ 0)
HasEnded closed Memory = (closed.source_faults ≡ 0) × (closed.sink_faults ≡ 0)

-- The client was served until its session ended so, and closed as it then was. One history from nothing explains its
-- transcript; what it read is a front of what its source had left, and all of that where the session ended with the input.
pub record ClosesOne {D S K C : Type 0} (members : Devices S K C) (client : Client S K C) (before now : List (Left D)) (end : End) : Type 0 where
  pub finished : Client S K C
  pub report : Report
  pub ended_by : report.end ≡ end
  pub session : IsServed (told_by members client) (told_by members finished) report
  pub last : now ≡ before ++ OfClient (closed_by members finished report) ∷ []
  pub tells : TellsTranscript (closed_by members finished report) session.transcript
  pub cause : HasEnded (closed_by members finished report) end

module _ {D S K C : Type 0} (members : Devices S K C) (words : List Word) (old new : Health) (held_before held_now : Option (List (Held S K C))) (before now : List (Left D)) where
  -- The first client of the two names was handed out, served until its session ended so, and closed. The desk met no fault.
  pub record ServedOne (end : End) : Type 0 where
    pub input : List ℕ
    pub output : List ℕ
    pub asked : AsksMem words input output
    pub client : Client S K C
    pub handed : HandsOut input output client held_before held_now
    pub quiet : new.faults ≡ old.faults
    pub closes : ClosesOne members client before now end

  -- A device failed: the desk, whose count rose and which opened nothing, or the client's source or sink.
  abbrev pub EndedByFault : Type 0
  EndedByFault = ((now ≡ before) × Rose old.faults new.faults) ⊎ (ServedOne SourceFault ⊎ ServedOne SinkFault)

  -- There was no memory to open the client, or for its session or its sink; no device has met a fault.
  abbrev pub EndedByMemory : Type 0
  EndedByMemory = ((now ≡ before) × (new ≡ old)) ⊎ ServedOne Memory

  -- why the program ended so where the words ask for no directory; words that are no command open nothing
  abbrev pub HasCause : Status → Type 0
  HasCause status.Served = ServedOne Read
  HasCause status.NoCommand = (¬ (IsCommand words)) × (now ≡ before)
  HasCause (status.Damaged damage) = ⊥
  HasCause status.Fault = IsMem words × EndedByFault
  HasCause status.NoMemory = IsMem words × EndedByMemory

-- a steady desk holds the client that the words ask for
pub record WillServe {S K C : Type 0} (words : List Word) (health : Health) (held : Option (List (Held S K C))) : Type 0 where
  pub input : List ℕ
  pub output : List ℕ
  pub asked : AsksMem words input output
  pub steady : IsTrue health.is_steady
  pub is_held : IsHeld input output held

-- the status of a program whose one session ended so
abbrev pub status_by : End → Status
status_by Read = status.Served
status_by SourceFault = status.Fault
status_by SinkFault = status.Fault
status_by Memory = status.NoMemory
