-- A log and the file that it stands in.
use Rattle.std.specs.Prelude.{◌≡◌, ◌≢◌, ◌⊎◌, ℕ, ◌+◌, ◌≤◌, List, [], ◌∷◌, length, Option, Some, None}
use Rattle.shard_disk.specs.Crash.{Crashes, Everywhere}
use Rattle.shard_disk.specs.Directory.{Directory, HasFile}
use Rattle.gate_log.specs.declared.log.Gate.{Gate}
use Rattle.gate_log.specs.declared.log.Gate.TheVariants.{Shut, Missing, InDoubt}
use Rattle.gate_log.specs.declared.log.Log.{Log}
use Rattle.gate_log.specs.Records.{Spells, IsShut, IsStaged, spelled}

-- the log's file is there, and reaches so far past the end of the records
abbrev pub Reaches : Directory → Log → ℕ → Type 0
Reaches files log n = HasFile files log.file (λ bytes. log.end + n ≤ length bytes)

-- how far it does at least
abbrev pub room_for : Gate → ℕ
room_for Shut = 1
room_for Missing = 0
room_for InDoubt = 1

abbrev pub IsPlaced : Directory → Log → Type 0
IsPlaced files log = Reaches files log (room_for log.gate)

-- what stands behind the records, where this record is in doubt, or none is
abbrev pub EndsBy : Gate → Option (List ℕ) → List ℕ → Type 0
EndsBy Shut None rest = IsShut rest
EndsBy Missing None rest = length rest ≤ 1
EndsBy InDoubt (Some body) rest = IsStaged body rest
EndsBy Shut (Some body) rest = ⊥
EndsBy Missing (Some body) rest = ⊥
EndsBy InDoubt None rest = ⊥

-- What stands behind the records of a file that was read: the gate is missing exactly where the file ends there.
abbrev pub FoundBy : Gate → List ℕ → Type 0
FoundBy Shut rest = IsShut rest
FoundBy Missing rest = rest ≡ []
FoundBy InDoubt rest = ⊥

-- The log has these records, and one in doubt or none, as its file reads and whatever a crash leaves of it.
pub record Stands (files : Directory) (crashes : Crashes) (log : Log) (records : List (List ℕ)) (doubt : Option (List ℕ)) : Type 0 where
  pub place : log.end ≡ length (spelled records)
  pub file : Everywhere files crashes log.file (Spells records (EndsBy log.gate doubt))

-- a record may be there or not, as a crash would tell
abbrev pub IsInDoubt : Log → Type 0
IsInDoubt log = log.gate ≡ InDoubt

-- a closed gate ends the log, and none is in doubt
abbrev pub IsShutLog : Log → Type 0
IsShutLog log = log.gate ≡ Shut

-- no record: a closed gate stands first
abbrev pub IsEmptyLog : Log → Type 0
IsEmptyLog log = (log.end ≡ 0) × IsShutLog log

-- the number of its file
abbrev pub file_of : Log → ℕ
file_of log = log.file

-- a gate ends the log or a record is in doubt: the file doesn't end right behind the records
abbrev pub HasGate : Log → Type 0
HasGate log = log.gate ≢ Missing

-- the record in doubt, if there is one
abbrev pub doubtful : Option (List ℕ) → List (List ℕ)
doubtful None = []
doubtful (Some body) = body ∷ []

-- what is in doubt after a refusal: nothing, what was, or after a fault the new record
abbrev pub IsLeft : Option (List ℕ) → List ℕ → Type 0 → Option (List ℕ) → Type 0
IsLeft doubt body IsFault left = (left ≡ None) ⊎ (left ≡ doubt) ⊎ (IsFault × (left ≡ Some body))
