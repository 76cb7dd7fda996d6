-- What adding a record makes of a log.
use Rattle.std.specs.Prelude.{◌≡◌, ℕ, ◌+◌, List, [], ◌∷◌, ◌++◌, length, Option, None, Result, IsTrue, OnOk, OnErr, IsErrOf}
use Rattle.shard_disk.specs.Crash.{Crashes, Everywhere, Leaves}
use Rattle.shard_disk.specs.Directory.{Directory, Anything, ChangesAt, Ends}
use Rattle.shard_disk.specs.Health.{HasCause}
use Rattle.shard_disk.specs.declared.disk.Disk.{Ghosts}
use Rattle.shard_disk.specs.declared.trouble.Trouble.{Trouble}
use Rattle.shard_disk.specs.declared.trouble.Trouble.TheVariants.{Fault}
use Rattle.gate_log.specs.declared.log.Gate.TheVariants.{Shut, InDoubt}
use Rattle.gate_log.specs.declared.log.Log.{Log}
use Rattle.gate_log.specs.Calls.Settle.{KeepsFile}
use Rattle.gate_log.specs.Log.{HasGate, IsLeft, IsPlaced, Stands, doubtful}
use Rattle.gate_log.specs.Records.{framed, spelled, IsReady, Spells, WithAtMost}

-- The gate of the record that was whole behind it is open: the log has one record more, and none is in doubt.
pub record Opens (tells : Type 0) (size : ℕ) (old new : Log) (files files' : Directory) (crashes crashes' : Crashes) : Type 0 where
  pub stands : tells → (records : List (List ℕ)) (body : List ℕ) → size ≡ 1 + length (framed body) → old.end ≡ length (spelled records)
      → Everywhere files crashes old.file (Spells records (IsReady body)) → Stands files' crashes' new (records ++ body ∷ []) None
  pub shut : new.gate ≡ Shut

-- It has one record more, and none is in doubt.
pub record Adds (tells : Type 0) (body : List ℕ) (old new : Log) (files files' : Directory) (crashes crashes' : Crashes) : Type 0 where
  pub stands : tells → (records : List (List ℕ)) (doubt : Option (List ℕ)) → Stands files crashes old records doubt → Stands files' crashes' new (records ++ body ∷ []) None
  pub shut : new.gate ≡ Shut

-- The records are the same. In doubt is none, the one that was, or after a fault this one.
pub record AddsNone (tells fault : Type 0) (body : List ℕ) (old new : Log) (files files' : Directory) (crashes crashes' : Crashes) : Type 0 where
  pub stands : tells → (records : List (List ℕ)) (doubt : Option (List ℕ)) → Stands files crashes old records doubt
      → (left : Option (List ℕ)) × IsLeft doubt body fault left × Stands files' crashes' new records left
  pub sure : (fault → ⊥) → new.gate ≡ InDoubt → old.gate ≡ InDoubt

-- A record is added, or a refusal left the records as they were. A crash at any moment of the call leaves them with at most the new
-- one or the one in doubt, and every other file as before, also where the log had no gate. It takes no memory: want of memory is the
-- disk's alone, or an end of the file past 2 ^ 64.
pub record Appends {D R W : Type 0} (g : Ghosts D R W) (body : List ℕ) (old new : Log) (disk disk' : D) (result : Result (Unit {0}) Trouble) : Type 0 where
  pub ok : OnOk result (Adds (IsTrue g.tells) body old new (g.files disk) (g.files disk') (g.crashes disk) (g.crashes disk'))
  pub refused : OnErr result (AddsNone (IsTrue g.tells) (IsErrOf result Fault) body old new (g.files disk) (g.files disk') (g.crashes disk) (g.crashes disk'))
  pub crash : IsTrue g.tells → HasGate old → (records : List (List ℕ)) (doubt : Option (List ℕ)) → Stands (g.files disk) (g.crashes disk) old records doubt
      → Leaves (ChangesAt old.file (Ends (WithAtMost records (body ∷ doubtful doubt)))) (g.crashes disk) (g.crashes disk')
  pub elsewhere : Leaves (ChangesAt old.file Anything) (g.crashes disk) (g.crashes disk')
  pub placed : IsTrue g.tells → IsPlaced (g.files disk') new
  pub kept : KeepsFile (IsTrue g.tells) old new (g.files disk) (g.files disk')
  pub handed_out : g.handed_out disk' ≡ g.handed_out disk
  pub fault : HasCause result (g.health disk) (g.health disk')
