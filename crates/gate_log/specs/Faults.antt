-- What trouble of the disk becomes for a reader of the log, and which health of the disk an answer tells.
use Rattle.std.specs.Prelude.{◌≡◌, Result, IsErrOf}
use Rattle.shard_disk.specs.Health.{Health, Ages, Failed}
use Rattle.shard_disk.specs.declared.trouble.Trouble.{Trouble}
use Rattle.shard_disk.specs.declared.trouble.Trouble.TheVariants as trouble
use Rattle.gate_log.specs.declared.fault.LogFault.{LogFault}
use Rattle.gate_log.specs.declared.fault.LogFault.TheVariants.{Fault, Memory}

-- a fault stays a fault, and want of memory stays that
abbrev pub fault_of : Trouble → LogFault
fault_of trouble.Fault = Fault
fault_of trouble.Memory = Memory

-- What a call that may answer `LogFault` does to the health of the disk. It answers `Fault` where the disk failed in the call, and
-- there alone: after any other answer the health is as it was.
pub record LogHasCause {T : Type 0} (result : Result T LogFault) (old new : Health) : Type 0 where
  pub ages : Ages old new
  pub fault : IsErrOf result Fault → Failed old new
  pub quiet : (IsErrOf result Fault → ⊥) → new ≡ old
