-- What a log is that was read from a file.
use Rattle.std.specs.Prelude.{◌≡◌, ◌≢◌, ℕ, List, length, None}
use Rattle.shard_disk.specs.Crash.{Crashes, IsDurable}
use Rattle.shard_disk.specs.Directory.{Directory, HasFile, IsPresent}
use Rattle.gate_log.specs.declared.log.Gate.TheVariants.{InDoubt}
use Rattle.gate_log.specs.declared.log.Log.{Log}
use Rattle.gate_log.specs.Log.{FoundBy, HasGate, IsPlaced, Stands}
use Rattle.gate_log.specs.Records.{AllFit, IsClosed, Spells, spelled}

-- The file is these records and an end, and a crash leaves it as it reads. The log has them and none in doubt and, where
-- every crash leaves the file, it has them after a crash. It has a gate where its file is closed.
pub record Reads (tells : Type 0) (number : ℕ) (log : Log) (records : List (List ℕ)) (files : Directory) (crashes crashes' : Crashes) : Type 0 where
  pub found : tells → HasFile files number (Spells records (FoundBy log.gate))
  pub fit : AllFit records
  pub place : log.end ≡ length (spelled records)
  pub durable : IsDurable files crashes' number
  pub stands : tells → ((image : Directory) → crashes.now image → IsPresent image number) → Stands files crashes' log records None
  pub gated : tells → HasFile files number IsClosed → HasGate log
  pub placed : tells → IsPlaced files log
  pub file : log.file ≡ number
  pub sure : log.gate ≢ InDoubt
