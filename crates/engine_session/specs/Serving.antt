-- What does serving clients over one engine come to?
use Rattle.std.specs.Prelude.{◌≡◌, ℕ, ◌+◌, ◌≤◌, min, Some, true, List, [], ◌∷◌, ◌++◌, length, IfSome, IsTrue, Result}
use Rattle.std.specs.List.{AllByRecursion, flat_map}
use Rattle.shard_disk.specs.Health.{Ages, HasCause as FaultHasCause, Health, last_count}
use Rattle.shard_disk.specs.declared.disk.Disk.{Ghosts}
use Rattle.shard_disk.specs.declared.trouble.Trouble.{Trouble}
use Rattle.point_model.specs.Histories.{State}
use Rattle.point_model.specs.declared.entry.Entry.{Entry}
use Rattle.store_trait.specs.Told.{Limits}
use Rattle.session_io.specs.declared.report.Report.{Report}
use Rattle.session_io.specs.declared.report.End.TheVariants.{Read}
use Rattle.session_io.specs.Streams.{Grows, Shrinks}
use Rattle.session_model.specs.Explained.{ExplainedBut, IsTriedIn, Transcript, all_answers}
use Rattle.session_loop.specs.Sessions.{Told, faults_in}
use Rattle.session_loop.specs.Steps.{HasCause}
use Rattle.shard_calls.specs.Holds.{HasRun, HoldsSeries}
use Rattle.shard_calls.specs.Told.{limits_of}
use Rattle.shard_state.specs.History.{Attempt}
use Rattle.shard_state.specs.Meaning.{NamesSeries}
use Rattle.shard_steps.specs.Shards.{state_of}
use Rattle.shard_steps.specs.declared.shard.Shard.{Shard}
use Rattle.engine_session.specs.Durable.{Lasts}

-- a session of a client: what the client's devices told before and since, and its report
pub record ClientSession : Type 0 where
  pub before : Told
  pub now : Told
  pub report : Report

-- What is told has grown by the transcript, which has the session's report. The bytes read are a front of what was left to read, and
-- all of it where the session ended with the input.
pub record IsTranscript (session : ClientSession) (transcript : Transcript) : Type 0 where
  pub read : Grows session.before.given session.now.given transcript.read
  pub left : Shrinks session.before.left session.now.left transcript.read
  pub ended : transcript.ended ≡ session.now.ended
  pub all_read : session.report.end ≡ Read → IfSome session.now.left (λ bytes. bytes ≡ [])
  pub moments : Grows session.before.moments session.now.moments transcript.moments
  pub written : Grows session.before.written session.now.written transcript.written
  pub reported : transcript.report ≡ session.report

-- the same of several sessions, one by one
abbrev pub AreTranscripts : List ClientSession → List Transcript → Type 0
AreTranscripts [] [] = Unit {0}
AreTranscripts (session ∷ sessions) (transcript ∷ transcripts) = IsTranscript session transcript × AreTranscripts sessions transcripts
AreTranscripts [] (transcript ∷ transcripts) = ⊥
AreTranscripts (session ∷ sessions) [] = ⊥

-- One history explains the transcripts of all sessions together: each reply is the machine's from the start on, or has its cause in
-- the engine's limits, a failed device or want of memory. The count of the device's faults rose by no less than the replies that tell
-- a fault, and by nothing where none does. Each of the entries tried is one that a client asked for and was refused by a fault or for want
-- of memory, in an answer whose place in the history is behind exactly the entries up to its number.
pub record AreServed (sessions : List ClientSession) (start : State) (limits : Limits) (held : ℕ) (history : List Entry) (tried : List Attempt) (old new : Health) : Type 0 where
  pub transcripts : List Transcript
  pub are : AreTranscripts sessions transcripts
  pub explained : ExplainedBut true (HasCause true (Some limits) held start) start history transcripts
  pub ages : Ages old new
  pub faults : min (old.faults + faults_in (flat_map all_answers explained.dialogues)) last_count ≤ new.faults
  pub quiet : faults_in (flat_map all_answers explained.dialogues) ≡ 0 → new ≡ old
  pub asked : AllByRecursion (IsTriedIn true (HasCause true (Some limits) held start) start history 0 transcripts explained.dialogues explained.told) tried

-- Clients were served over an engine, which was closed: one history explains what they were told, and is what the disk was left with. What
-- a crash may leave besides is an entry that a client asked for and was refused by a fault or for want of memory.
-- No reply tells of more series than the engine held at the end: those of its start, those that the entries write, and maybe some of
-- batches that were refused. The series file that the closed directory names has exactly these, and maybe more behind them. The disk has
-- handed out what it had: no reader is out more, so that it can be opened again.
pub record Serves {D R W : Type 0} (g : Ghosts D R W) (sessions : List ClientSession) (engine : Shard D) (disk : D) (number : ℕ) (closed : Result (Unit {0}) Trouble) : Type 0 where
  pub history : List Entry
  pub tried : List Attempt
  pub held : List (List ℕ)
  pub holds : HoldsSeries engine.logs.series.keys history tried held
  pub middle : Health
  pub served : AreServed sessions (state_of engine) (limits_of (state_of engine) engine.logs.series.keys engine) (length held) history tried (g.health engine.logs.disk) middle
  pub counted : number ≡ (state_of engine).number + length history
  pub lasts : IsTrue g.tells → (since : ℕ) → HasRun g (state_of engine) since [] [] engine → Lasts g disk since (state_of engine) history tried closed
  pub stored : IsTrue g.tells → (since : ℕ) → HasRun g (state_of engine) since [] [] engine → (more : List (List ℕ)) × NamesSeries (g.files disk) (held ++ more)
  pub closing : FaultHasCause closed middle (g.health disk)
  pub handed_out : g.handed_out disk ≡ g.handed_out engine.logs.disk
