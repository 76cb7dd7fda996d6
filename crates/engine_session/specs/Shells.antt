-- What does a shell owe its client and its disk?
use Rattle.std.specs.Prelude.{◌≡◌, ◌≢◌, ℕ, ◌+◌, Bool, List, [], ◌∷◌, ◌++◌, length, Result, IsTrue}
use Rattle.shard_disk.specs.Health.{Ages, Failed, HasCause as FaultHasCause, Health}
use Rattle.shard_disk.specs.declared.disk.Disk.{Ghosts}
use Rattle.shard_disk.specs.declared.trouble.Trouble.{Trouble}
use Rattle.shard_disk.specs.declared.damage.Damage.{Damage}
use Rattle.gate_log.specs.declared.fault.LogFault.{LogFault}
use Rattle.gate_log.specs.declared.fault.LogFault.TheVariants.{Damaged, Fault}
use Rattle.point_model.specs.Histories.{State}
use Rattle.point_model.specs.declared.entry.Entry.{Entry}
use Rattle.store_trait.specs.Told.{Limits}
use Rattle.session_io.specs.declared.report.Report.{Report}
use Rattle.session_loop.specs.Sessions.{Told}
use Rattle.shard_disk.specs.Directory.{Directory}
use Rattle.shard_state.specs.Crashes.{LeavesOnly}
use Rattle.shard_state.specs.History.{Attempt}
use Rattle.shard_state.specs.Meaning.{NamesSeries, Stands}
use Rattle.shard_state.specs.Opening.{IsSoundAtOpening, IsSoundThroughout}
use Rattle.shard_recover.specs.Damage.{IsFirstDamage}
use Rattle.shard_recover.specs.Standing.{Stood}
use Rattle.shard_steps.specs.declared.settings.Settings.{Settings}
use Rattle.shard_opening.specs.Opening.{IsLeft, KeepsNamed}
use Rattle.shard_calls.specs.Holds.{HoldsSeries}
use Rattle.engine_session.specs.Durable.{Lasts}
use Rattle.engine_session.specs.Ends.{EndsBy}
use Rattle.engine_session.specs.Serving.{AreServed, ClientSession}
use Rattle.engine_session.specs.declared.directory.ShellEnd.{ShellEnd}
use Rattle.engine_session.specs.declared.directory.ShellEnd.TheVariants.{Opening, Done}

-- the limits of an engine with these settings that began with this state and these series
abbrev pub limits_with : Settings → State → List (List ℕ) → Limits
limits_with settings start series = record { cached = length start.points; most_cached = settings.cache_points; series = series; most_series = settings.series }

-- The directory wasn't opened. A fault came where the disk failed, and there alone; none that is sound was found damaged; damage is the
-- first that is wrong, and a directory that is damaged was left as it was found; what a crash leaves stands for what it did before; files
-- that are named were kept, and no reader is out more than before.
pub record OpensNone {D R W : Type 0} (g : Ghosts D R W) (disk disk' : D) (why : LogFault) : Type 0 where
  pub ages : Ages (g.health disk) (g.health disk')
  pub fault : why ≡ Fault → Failed (g.health disk) (g.health disk')
  pub quiet : why ≢ Fault → g.health disk' ≡ g.health disk
  pub undamaged : IsTrue g.tells → (state : State) → IsSoundAtOpening g disk state → (damage : Damage) → why ≡ Damaged damage → ⊥
  pub place : IsTrue g.tells → (damage : Damage) → why ≡ Damaged damage → IsFirstDamage damage (g.files disk)
  pub left : IsTrue g.tells → (damage : Damage) → IsFirstDamage damage (g.files disk) → IsLeft g disk disk'
  pub crash : IsTrue g.tells → (state : State) → IsSoundThroughout g disk state → LeavesOnly (λ (c : Directory). Stands c state) (g.crashes disk) (g.crashes disk')
  pub kept : KeepsNamed g disk disk'

-- The directory was opened, clients were served over it, and it was closed. One history explains what all of them were told. It begins
-- with the state and the series for which the files stood; and where the disk was sound it was left with the history, at every moment
-- since the opening began, or, where a crash before it might have left another state, since a moment of the call. No reply tells of more
-- series than were held at the end, and the series file that the directory names has exactly those, and maybe more behind them. No reader is
-- out more than before, so that the disk can be opened again.
pub record ServesDirectory {D R W : Type 0} (g : Ghosts D R W) (settings : Settings) (disk disk' : D) (sessions : List ClientSession) (number : ℕ) (closed : Result (Unit {0}) Trouble) : Type 0 where
  pub start : State
  pub series : List (List ℕ)
  pub held : List (List ℕ)
  pub history : List Entry
  pub tried : List Attempt
  pub holds : HoldsSeries series history tried held
  pub middle : Health
  pub served : AreServed sessions start (limits_with settings start series) (length held) history tried (g.health disk) middle
  pub counted : number ≡ start.number + length history
  pub stood : IsTrue g.tells → Stood (g.files disk) start series
  pub is : IsTrue g.tells → (state : State) → IsSoundAtOpening g disk state → start ≡ state
  pub lasts : IsTrue g.tells → IsSoundThroughout g disk start → Lasts g disk' (g.crashes disk).moment start history tried closed
  pub stored : IsTrue g.tells → IsSoundAtOpening g disk start → (more : List (List ℕ)) × NamesSeries (g.files disk') (held ++ more)
  pub closing : FaultHasCause closed middle (g.health disk')
  pub readers : (g.handed_out disk').readers ≡ (g.handed_out disk).readers
  pub settles : IsTrue g.tells → IsSoundAtOpening g disk start → (since : ℕ) × Lasts g disk' since start history tried closed

-- What a shell did with a directory and one client. Where the directory wasn't opened, no byte was read or written.
abbrev pub Shells : {D R W : Type 0} → Ghosts D R W → Settings → Told → Told → D → D → ShellEnd → Type 0
Shells g settings before now disk disk' (Opening why) = OpensNone g disk disk' why × (now ≡ before)
Shells g settings before now disk disk' (Done report number closed) = ServesDirectory g settings disk disk' (record { before = before; now = now; report = report } ∷ []) number closed

-- Why a served session ended; where nothing was opened its source and sink were left alone.
abbrev pub EndsShell : {S K : Type 0} → (S → Bool) → (S → Health) → (K → Health) → S → S → K → K → ShellEnd → Type 0
EndsShell ended source_health sink_health source_old source_new sink_old sink_new (Opening why) = (source_new ≡ source_old) × (sink_new ≡ sink_old)
EndsShell ended source_health sink_health source_old source_new sink_old sink_new (Done report number closed) = EndsBy ended source_health sink_health source_old source_new sink_old sink_new report
