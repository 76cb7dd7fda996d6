-- What ending a doubt makes of a log.
use Rattle.std.specs.Prelude.{◌≡◌, ℕ, List, Option, None, Result, IsTrue, IsOk, OnOk, OnErr}
use Rattle.shard_disk.specs.Crash.{Crashes, Leaves}
use Rattle.shard_disk.specs.Directory.{Directory, Anything, ChangesAt, Ends}
use Rattle.shard_disk.specs.Health.{HasCause}
use Rattle.shard_disk.specs.declared.disk.Disk.{Ghosts}
use Rattle.shard_disk.specs.declared.trouble.Trouble.{Trouble}
use Rattle.gate_log.specs.declared.log.Gate.TheVariants.{Shut}
use Rattle.gate_log.specs.declared.log.Log.{Log}
use Rattle.gate_log.specs.Log.{HasGate, IsPlaced, IsShutLog, Stands, doubtful}
use Rattle.gate_log.specs.Records.{WithAtMost}

-- A closed gate stands behind the records, which are the same; the one that was in doubt isn't one of them.
pub record Settles (tells : Type 0) (old new : Log) (files files' : Directory) (crashes crashes' : Crashes) : Type 0 where
  pub stands : tells → (records : List (List ℕ)) (doubt : Option (List ℕ)) → Stands files crashes old records doubt → Stands files' crashes' new records None
  pub shut : new.gate ≡ Shut
  pub place : new.end ≡ old.end

-- The log stands as it did, with what was in doubt still so.
pub record Remains (tells : Type 0) (old new : Log) (files files' : Directory) (crashes crashes' : Crashes) : Type 0 where
  pub stands : tells → (records : List (List ℕ)) (doubt : Option (List ℕ)) → Stands files crashes old records doubt → Stands files' crashes' new records doubt
  pub same : new ≡ old

-- The log keeps its file, and a gate where it had one; no other file was touched.
pub record KeepsFile (tells : Type 0) (old new : Log) (files files' : Directory) : Type 0 where
  pub file : new.file ≡ old.file
  pub gate : HasGate old → HasGate new
  pub others : tells → ChangesAt old.file Anything files files'

-- The doubt is ended, or a refusal left it. A crash at any moment of the call leaves the records, with the one in doubt or without.
-- Every other file it leaves as before, also where the log had no gate. Where a closed gate ends the log nothing is done.
pub record Settling {D R W : Type 0} (g : Ghosts D R W) (old new : Log) (disk disk' : D) (result : Result (Unit {0}) Trouble) : Type 0 where
  pub ok : OnOk result (Settles (IsTrue g.tells) old new (g.files disk) (g.files disk') (g.crashes disk) (g.crashes disk'))
  pub refused : OnErr result (Remains (IsTrue g.tells) old new (g.files disk) (g.files disk') (g.crashes disk) (g.crashes disk'))
  pub crash : IsTrue g.tells → HasGate old → (records : List (List ℕ)) (doubt : Option (List ℕ)) → Stands (g.files disk) (g.crashes disk) old records doubt
      → Leaves (ChangesAt old.file (Ends (WithAtMost records (doubtful doubt)))) (g.crashes disk) (g.crashes disk')
  pub elsewhere : Leaves (ChangesAt old.file Anything) (g.crashes disk) (g.crashes disk')
  pub idle : IsShutLog old → IsOk result × (new ≡ old) × (disk' ≡ disk)
  pub placed : IsTrue g.tells → IsPlaced (g.files disk') new
  pub kept : KeepsFile (IsTrue g.tells) old new (g.files disk) (g.files disk')
  pub handed_out : g.handed_out disk' ≡ g.handed_out disk
  pub fault : HasCause result (g.health disk) (g.health disk')
