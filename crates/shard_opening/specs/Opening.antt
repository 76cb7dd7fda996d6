-- What is an engine that was opened?
use Rattle.std.specs.Prelude.{◌≡◌, ◌≢◌, ℕ, List, [], ◌∷◌, None, Result, Ok, Err, IsTrue}
use Rattle.shard_disk.specs.Crash.{Leaves, Same}
use Rattle.shard_disk.specs.Directory.{HasFile}
use Rattle.shard_disk.specs.Health.{Health, Ages, Failed}
use Rattle.shard_disk.specs.declared.damage.Damage.{Damage}
use Rattle.shard_disk.specs.declared.disk.Disk.{Ghosts}
use Rattle.gate_log.specs.declared.fault.LogFault.{LogFault}
use Rattle.gate_log.specs.declared.fault.LogFault.TheVariants.{Damaged, Fault}
use Rattle.point_model.specs.Histories.{State}
use Rattle.shard_state.specs.Opening.{IsSoundAtOpening, IsSoundThroughout}
use Rattle.shard_recover.specs.Damage.{IsFirstDamage}
use Rattle.shard_recover.specs.Opening.{HasOnly, Removes}
use Rattle.shard_recover.specs.Opening as recover
use Rattle.manifest_log.specs.declared.directory.Directory.{Directory as Named}
use Rattle.manifest_log.specs.Edits.{names}
use Rattle.manifest_log.specs.Reading.{IsManifest, manifest}
use Rattle.shard_recover.specs.Standing.{Stood}
use Rattle.shard_steps.specs.Shards.{Runs, state_of}
use Rattle.shard_steps.specs.declared.settings.Settings.{Settings}
use Rattle.shard_steps.specs.declared.shard.Shard.{Shard}
use Rattle.shard_state.specs.declared.logs.Logs.{Logs}
use Rattle.shard_opening.specs.declared.filling.Filling.{Filling}

-- Where the disk is sound as it is opened, the engine stands for what it stands for, and so does each crash from now on: a history of
-- the engine begins at the moment after the call.
abbrev pub Settles : {D R W : Type 0} → Ghosts D R W → D → Shard D → Type 0
Settles g disk shard = IsTrue g.tells → (state : State) → IsSoundAtOpening g disk state → Runs g shard state (g.crashes shard.logs.disk).moment [] [] None

-- Where also each crash before leaves what stands for that, a history of the engine begins with it at the moment before the call.
abbrev pub Begins : {D R W : Type 0} → Ghosts D R W → D → Shard D → Type 0
Begins g disk shard = IsTrue g.tells → (state : State) → IsSoundThroughout g disk state → Runs g shard state (g.crashes disk).moment [] [] None

-- it has these settings, and no view is out
pub record IsFirst {D : Type 0} (settings : Settings) (shard : Shard D) : Type 0 where
  pub settings_are : shard.settings ≡ settings
  pub unlent : shard.views ≡ 0

-- A fault came where the disk failed, and there alone.
abbrev pub HasCause : {D : Type 0} → Result (Shard D) (D × LogFault) → Health → (D → Health) → Type 0
HasCause (Ok shard) old health = health shard.logs.disk ≡ old
HasCause (Err refused) old health = Ages old (health refused.0) × (refused.1 ≡ Fault → Failed old (health refused.0)) × (refused.1 ≢ Fault → health refused.0 ≡ old)

-- The disk is as it was found, as it reads and whatever a crash leaves.
pub record IsLeft {D R W : Type 0} (g : Ghosts D R W) (old new : D) : Type 0 where
  pub files : g.files new ≡ g.files old
  pub crash : Leaves Same (g.crashes old) (g.crashes new)
  pub handed_out : g.handed_out new ≡ g.handed_out old

-- Why a directory was refused. Damage is the first that is wrong with it; and one that is damaged is left as it was found, whatever
-- is answered.
pub record Refuses {D R W : Type 0} (g : Ghosts D R W) (old new : D) (why : LogFault) : Type 0 where
  pub place : (damage : Damage) → why ≡ Damaged damage → IsFirstDamage damage (g.files old)
  pub left : (damage : Damage) → IsFirstDamage damage (g.files old) → IsLeft g old new

-- What was opened: the files stood for this state and these series. Where a manifest names files, no others are there any more.
pub record StandsOn {D R W : Type 0} (g : Ghosts D R W) (old new : D) (state : State) (series : List (List ℕ)) : Type 0 where
  pub stood : Stood (g.files old) state series
  pub only : (n : Named) → HasFile (g.files old) manifest (IsManifest n) → HasOnly (0 ∷ names n) (g.files new)

-- What is answered of a disk that tells: the engine has the state and the series for which the files stood, or they are refused.
abbrev pub Answers : {D R W : Type 0} → Ghosts D R W → D → Result (Shard D) (D × LogFault) → Type 0
Answers g disk (Ok shard) = IsTrue g.tells → StandsOn g disk shard.logs.disk (state_of shard) shard.logs.series.keys
Answers g disk (Err refused) = IsTrue g.tells → Refuses g disk refused.0 refused.1

-- Whatever is answered: no reader is out more than before; and where a manifest names files, no other files were removed, and these
-- are as they were, as the disk reads and whatever a crash leaves.
pub record KeepsNamed {D R W : Type 0} (g : Ghosts D R W) (old new : D) : Type 0 where
  pub readers : (g.handed_out new).readers ≡ (g.handed_out old).readers
  pub named : IsTrue g.tells → (n : Named) → HasFile (g.files old) manifest (IsManifest n) → Removes g (0 ∷ names n) old new

-- the same of the logs, with the points that their entries left in memory
abbrev pub AnswersLogs : {D R W : Type 0} → Ghosts D R W → D → Filling → Result (Logs D) (D × LogFault) → Type 0
AnswersLogs g disk filling (Ok logs) = IsTrue g.tells → StandsOn g disk logs.disk (record { points = filling.live.points; number = logs.number }) logs.series.keys
AnswersLogs g disk filling (Err refused) = IsTrue g.tells → Refuses g disk refused.0 refused.1

-- Where the disk is sound as it is opened, the logs stand for its state.
abbrev pub OpensLogs : {D R W : Type 0} → Ghosts D R W → D → Logs D → Type 0
OpensLogs g disk logs = IsTrue g.tells → (state : State) → IsSoundAtOpening g disk state → recover.Opens g state logs

-- the disk of the engine, or the one that was given back
abbrev pub disk_of : {D : Type 0} → Result (Shard D) (D × LogFault) → D
disk_of (Ok shard) = shard.logs.disk
disk_of (Err refused) = refused.0
